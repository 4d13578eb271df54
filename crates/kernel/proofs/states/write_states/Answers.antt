use Rattle.std.proofs.Common.{◌≡◌, length, length-take, arith}
use Rattle.kernel.proofs.Codes.{one_more, written}
use Rattle.kernel.proofs.states.write_states.Goals as goal

pub loop-j-preserved : goal.loop-j-preserved
loop-j-preserved c = one_more c.loop-j.state-items c.status_of.result (omega (arith, c.loop-j.auto.state-items, c.loop-j-test.true)) c.loop-j.invariant c.status_of.ensures c.code.ensures

pub returns : goal.returns
returns c =
    let as_many : length c.loop-j.state-items ≡ c.args.engine.now.threads = omega (arith, c.loop-j.auto.state-items, length-take c.args.engine.now.threads c.args.states.now, c.requires.places) in
    written c.loop-j.state-items as_many (λ k l. c.loop-j.invariant k (omega (arith, as_many, c.loop-j.auto.state-items, c.loop-j-test.false)))
