use Rattle.kernel.proofs.Decoded.{some_decoded}
use Rattle.kernel.proofs.Verdicts.{handed}
use Rattle.kernel.proofs.runner.run_in_parts.Goals as goal

pub run_in_turn-requires-clause-text : goal.run_in_turn-requires-clause-text
run_in_turn-requires-clause-text c = some_decoded c.in-Ok.ensures

pub returns : goal.returns
returns c = handed _ _ _ (some_decoded c.in-Ok.ensures) c.copy_from_slice.ensures.after c.run_in_turn.ensures.stays.threads c.run_in_turn.ensures.runs c.from-ran.ensures c.hand_out.ensures
