-- What a program's buffers take.
use Rattle.std.specs.Prelude.{ℕ, ◌+◌, ◌-◌, ◌*◌, ◌/◌, max}
use Rattle.words.specs.declared.budget.Role.{Role}
use Rattle.words.specs.declared.budget.Role.TheVariants.{Memory, Rows}
use Rattle.words.specs.declared.budget.Task.{Task}
use Rattle.words.specs.declared.budget.Task.TheVariants.{Read, Run, Orders}

-- The bytes that a task takes with no words at all: 4096 to read by, and what it works in for its threads and its orders.
-- To run once takes 4096 words of 4 bytes, and for each thread 1024 words and a byte for its state; to run in orders takes
-- 2 words, for each thread 1024 words and two bytes, and a byte for each order.
abbrev pub bare : Task → ℕ
bare Read = 4096
bare (Run threads) = 20480 + 4097 * threads
bare (Orders threads orders) = 4104 + 4098 * threads + orders

-- The bytes of all buffers, with so many words read: 4096 to read by, 4 for each word of the memory, and for
-- each word of the rows 4 and another 4 for its entry in the table of ends. To run them in orders takes 4098
-- more for each thread, 1 for each order, and 16 more for each word of the memory and 8 at least: two copies, and
-- two words to keep touches in mind. To run them once takes 16384 more and 4097 for each thread, 16 more for each
-- word of the memory, which are four words, and 32 more for each of the rows, which are eight.
abbrev pub needed : Task → Role → ℕ → ℕ
needed Read Memory words = 4096 + 4 * words
needed Read (Rows memory) words = 4096 + 4 * memory + 8 * words
needed (Run threads) Memory words = 20480 + 4097 * threads + 20 * words
needed (Run threads) (Rows memory) words = 20480 + 4097 * threads + 20 * memory + 40 * words
needed (Orders threads orders) Memory words = 4104 + 4098 * threads + orders + 20 * words
needed (Orders threads orders) (Rows memory) words = 4104 + 4098 * threads + orders + 20 * memory + 8 * words

-- the bytes beside the one buffer of words and those to read by
abbrev pub bytes_beside : Task → ℕ
bytes_beside Read = 0
bytes_beside (Run threads) = threads
bytes_beside (Orders threads orders) = 2 * threads + orders

-- the words that one buffer for all may have
abbrev pub capacity : Task → ℕ
capacity Read = 1047552
capacity (Run threads) = (4190208 - threads) / 4
capacity (Orders threads orders) = (4190208 - (2 * threads + orders)) / 4

-- the words behind those that were read, but for those of `besides_rows`
abbrev pub besides : Task → ℕ → ℕ
besides Read memory = 0
besides (Run threads) memory = 4096 + 4 * memory + 1024 * threads
besides (Orders threads orders) memory = 2 * (memory + max memory 1) + 1024 * threads

-- the words more that are set aside for so many words of the rows, behind the table of ends
abbrev pub besides_rows : Task → ℕ → ℕ
besides_rows Read rows = 0
besides_rows (Run threads) rows = 8 * rows
besides_rows (Orders threads orders) rows = 0
