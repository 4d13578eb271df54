-- What is told after a touch, or after all that wait have gone on.
use Rattle.std.proofs.Common.{◌≡◌, ℕ, List, length, Some, None, Option, true, false, Ok, Err, Result, sym, subst, subst₂, true≢false, arith}
use Rattle.std.specs.Result.{is_err}
use Rattle.model.specs.Steps.{State}
use Rattle.machine.specs.declared.touched.Touch.{Touch}
use Rattle.machine.specs.Rules.{touches}
use Rattle.ledger.specs.declared.places.Earlier.{Earlier}
use Rattle.ledger.specs.Places.{Notes, notes}
use Rattle.ledger.specs.Tells.{Tells, Grows}
use Rattle.ledger.specs.Promises.{one_touch, NotePost, NextPost}
use Rattle.ledger.proofs.Tells.{kept_tells}
use Rattle.kernel.specs.Watching.{noted_in, Room, touching, resuming, Follows, Watched}

quiet_watched : (R : State → State → Type 0) {w w' : Option Notes} (l : Notes) → w ≡ Some l → ((s u : State) → R s u → Tells l s → Follows w' u) → ((places : ℕ) → Room places (Some l) → Room places w') → Watched R w w'
quiet_watched R l is each room = record {
  quiet = λ k e s u r tells. let same : l ≡ k = cc in each s u r (subst (λ l. Tells l s) (sym same) tells);
  clashed = λ e. let z : ◌≡◌ {A = ℕ} 0 1 = cc in absurd (omega arith);
  room = λ places r. room places (subst (Room places) is r);
}

-- as many words have room for as many places
as_much_room : (l l' : Notes) → length l'.words ≡ length l.words → (places : ℕ) → Room places (Some l) → Room places (Some l')
as_much_room l l' same places room = omega (arith, same, room)

-- what goes with what a ledger tells goes with a watch over it
pub watched_over : {R : State → State → Type 0} {w : Option Notes} {stamp : Option ℕ} {n : ℕ} {marks marks' : List ℕ} → stamp ≡ Some n → marks ≡ marks' → Watched R w (Some (notes marks' n)) → Watched R w (noted_in stamp marks)
watched_over {R} {w} is same watched = subst₂ (λ stamp marks. Watched R w (noted_in stamp marks)) (sym is) (sym same) watched

-- where nothing was touched, the same is told
pub untouched_watched : (w : Option Notes) (i : ℕ) (τ : Option Touch) → τ ≡ None → Watched (touching i (touches τ)) w w
untouched_watched w i τ none = record {
  quiet = λ l is s u grows tells. subst (λ w. Follows w u) (sym is) (kept_tells l s u i tells (subst (λ τ. Grows s u i (touches τ)) none grows));
  clashed = λ is. is;
  room = λ places r. r;
}

pub grown : {s u : State} (i : ℕ) (τ : Option Touch) (t : Touch) → τ ≡ Some t → Grows s u i (touches τ) → Grows s u i (one_touch t.place.0 t.access)
grown {s} {u} i τ t touch grows = subst (λ τ. Grows s u i (touches τ)) touch grows

module _ {w : Option Notes} {l l' : Notes} (i : ℕ) (is : w ≡ Some l) (τ : Option Touch) (t : Touch) (touch : τ ≡ Some t) where
  pub fine_watched : (r : Result (Unit {0}) Earlier) → is_err r ≡ false → NotePost l l' i t.place.0 t.access r → length l'.words ≡ length l.words → Watched (touching i (touches τ)) w (Some l')
  fine_watched (Err k) none post same = absurd (true≢false none)
  fine_watched (Ok done) none post same = quiet_watched (touching i (touches τ)) l is (λ s u grows tells. post.means.tells s u tells (grown i τ t touch grows)) (as_much_room l l' same)

  pub clash_watched : (r : Result (Unit {0}) Earlier) → is_err r ≡ true → NotePost l l' i t.place.0 t.access r → Watched (touching i (touches τ)) w None
  clash_watched (Ok done) some post = absurd (true≢false (sym some))
  clash_watched (Err k) some post = quiet_watched (touching i (touches τ)) l is (λ s u grows tells. let r = post.means.race s u tells (grown i τ t touch grows) in (r.0, i, t.place.0, r.1)) (λ places r. tt)

pub resumed_watched : {w : Option Notes} {l l' : Notes} → w ≡ Some l → NextPost l l' → length l'.words ≡ length l.words → Watched resuming w (Some l')
resumed_watched {l = l} {l'} is post same =
    quiet_watched resuming l is
    (λ s u e tells. subst (Tells l') (sym e) (post.tells s tells s))
    (as_much_room l l' same)
