-- What stands behind a head lies one deeper.
use Rattle.std.proofs.Common.{◌≡◌, ◌+◌, ◌*◌, Ok}
use Rattle.rows.specs.Parts.{sort, many}
use Rattle.rows.specs.Reader.{read_parts}
use Rattle.rows.specs.Told.{ToldOf}
use Rattle.rows.proofs.reader.Reader.+part_parts.Given as goal

abbrev pub decreases-part : goal.decreases-part
decreases-part l = 3 * l.depth

abbrev pub decreases-parts : goal.decreases-parts
decreases-parts l = 3 * l.depth + 2

abbrev pub decreases-some_parts : goal.decreases-some_parts
decreases-some_parts l = 3 * l.depth + 1

-- so many parts are read
abbrev pub invariant-some_parts-loop : goal.invariant-some_parts-loop
invariant-some_parts-loop l = record {
  told : ToldOf (many (sort l.kind) l.counter) (read_parts l.kind l.counter l.depth) l.fn.self.text l.depth l.at l.fn.self.ends.now l.self.ends.now (Ok l.whole);
  same_text : l.self.text ≡ l.fn.self.text;
  same_table : l.self.ends.ghost_name ≡ l.fn.self.ends.ghost_name;
}
