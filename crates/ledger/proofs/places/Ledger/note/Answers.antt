-- What a touch leaves, by the mark that was there.
use Rattle.std.proofs.Common.{refl}
use Rattle.ledger.proofs.Posts.{fresh_post, again_post, refused_post}
use Rattle.ledger.proofs.places.Ledger.note.Goals as goal

pub returns-then-is_old-clause-noted : goal.returns-then-is_old-clause-noted
returns-then-is_old-clause-noted c = fresh_post _ _ _ _ _ c.mark_at-mark.ensures (c.if-is_old.ensures.old refl) _ c.fresh.ensures.value c.requires.within _ c.put_mark.ensures.put

pub returns-in_default-clause-noted : goal.returns-in_default-clause-noted
returns-in_default-clause-noted c = refused_post _ _ _ _ _ c.mark_at-mark.ensures (c.if-is_old.ensures.current refl) c.in_default.ensures.value

pub returns-clause-noted : goal.returns-clause-noted
returns-clause-noted c = again_post _ _ _ _ _ c.mark_at-mark.ensures (c.if-is_old.ensures.current refl) _ c.in-Some.ensures.value c.requires.within _ c.put_mark-2.ensures.put
