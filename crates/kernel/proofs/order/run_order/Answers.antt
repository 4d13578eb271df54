use Rattle.std.proofs.Common.{◌∙◌}
use Rattle.kernel.proofs.Whole.{begins_watched, some_watched, order_post}
use Rattle.kernel.proofs.order.run_order.Goals as goal

pub play-requires : goal.play-requires
play-requires c = some_watched _ c.begin.ensures.begun c.begin.ensures.memory c.begin.ensures.stays c.requires.text _ c.open-watch.ensures c.requires.room

pub returns-clause-order : goal.returns-clause-order
returns-clause-order c =
    order_post c.args.engine.now c.requires.text
    (begins_watched _ c.begin.ensures.begun c.begin.ensures.memory c.begin.ensures.stays c.requires.text _ c.open-watch.ensures)
    c.play.ensures.played (c.play.ensures.stays.threads ∙ c.begin.ensures.stays.threads) c.write_states.ensures (c.clashed.ensures _)
