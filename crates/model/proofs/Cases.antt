-- The worked cases hold: most by computing.
use Rattle.std.proofs.Common.{◌≡◌, ℕ, zero, suc, [], ◌∷◌, Some, refl, arith}
use mathlib.Core.Bool.{false≢true}
use Rattle.std.specs.List.{slice_get}
use Rattle.model.specs.declared.Change.TheVariants.{Add as add, Write as write}
use Rattle.model.specs.declared.Access.TheVariants.{Reading as reading, Changing as changing}
use Rattle.model.specs.declared.Status.TheVariants.{Going as going, Waiting as waiting}
use Rattle.model.specs.Steps.{State, Step, one, together}
use Rattle.model.specs.Races.{here, there}
use Rattle.model.specs.Cases.{Cases, touch, at, two}

not_yet : {u : State} → Step (two (at waiting (touch ∷ [])) (at going [])) u → slice_get u.threads 0 ≡ Some (at waiting (touch ∷ []))
not_yet (one zero t is g) =
    let e : at waiting (touch ∷ []) ≡ t = cc in
    let z : ◌≡◌ {A = ℕ} 0 1 = cc in absurd (omega arith)
not_yet (one (suc i) t is g) = refl
not_yet (together none some) = absurd (false≢true none)

pub cases : Cases
cases = record {
  add_wraps = refl;
  sub_wraps = refl;
  mul_wraps = refl;
  div_rounds = refl;
  div_by_zero = refl;
  rem_rests = refl;
  rem_by_zero = refl;
  less_has_no_sign = refl;
  less_is_strict = refl;
  same_tells = refl;
  same_tells_apart = refl;
  place_modulo = refl;
  place_of_none = refl;
  sum_rows = refl;
  sum_reads = refl;
  sum_waits = refl;
  sum_ends = refl;
  sum_clashes = record { differ = λ e. omega arith; t = _; u = _; is_t = refl; is_u = refl; how_t = reading; how_u = changing add; by_t = here; by_u = there here; apart = refl };
  writes = refl;
  writes_a_variable = refl;
  assigns = refl;
  if_not_zero = refl;
  if_zero = refl;
  while_zero = refl;
  reads_together = refl;
  adds_together = refl;
  add_and_read = refl;
  read_and_add = refl;
  write_and_write = refl;
  write_and_add = refl;
  add_and_write = refl;
  write_and_read = refl;
  read_and_write = refl;
  touch_modulo = refl;
  touch_of_none = record { differ = λ e. omega arith; t = _; u = _; is_t = refl; is_u = refl; how_t = changing write; how_u = changing write; by_t = here; by_u = here; apart = refl };
  not_yet = λ u r. not_yet r;
  none_waits_for_ended = together refl refl;
  none_waits_for_stopped = together refl refl;
  own_turns = refl;
}
