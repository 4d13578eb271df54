use Rattle.std.proofs.Common.{refl, arith}
use Rattle.rows.specs.declared.head.Statement.TheVariants.{Skip, Seq, Assign, Read, Write, Increase, If, While, Wait}
use Rattle.machine.proofs.Rules.{height_small, has_head, ready, stepped}
use Rattle.machine.proofs.step.step_of.Goals as goal

pub top-at-requires-clause-low : goal.top-at-requires-clause-low
top-at-requires-clause-low c = omega (arith, height_small c.requires)

pub statement_head-requires : goal.statement_head-requires
statement_head-requires c = has_head c.requires c.top-at.ensures (omega arith)

pub split-requires : goal.split-requires
split-requires c = ready c.requires Seq c.in-Seq.ensures c.top-at.ensures (omega arith)

pub assign-requires : goal.assign-requires
assign-requires c = ready c.requires (Assign _) c.in-Assign.ensures c.top-at.ensures (omega arith)

pub read-requires : goal.read-requires
read-requires c = ready c.requires (Read _) c.in-Read.ensures c.top-at.ensures (omega arith)

pub returns-in-Read : goal.returns-in-Read
returns-in-Read c = stepped (Read _) c.in-Read.ensures c.top-at.ensures (omega arith) (c.read.ensures, refl)

pub update-requires : goal.update-requires
update-requires c = ready c.requires Write c.in-Write.ensures c.top-at.ensures (omega arith)

pub returns-in-Write : goal.returns-in-Write
returns-in-Write c = stepped Write c.in-Write.ensures c.top-at.ensures (omega arith) c.update.ensures

pub update-requires-in-Increase : goal.update-requires-in-Increase
update-requires-in-Increase c = ready c.requires Increase c.in-Increase.ensures c.top-at.ensures (omega arith)

pub returns-in-Increase : goal.returns-in-Increase
returns-in-Increase c = stepped Increase c.in-Increase.ensures c.top-at.ensures (omega arith) c.update-in-Increase.ensures

pub choose-requires : goal.choose-requires
choose-requires c = ready c.requires If c.in-If.ensures c.top-at.ensures (omega arith)

pub turn-requires : goal.turn-requires
turn-requires c = ready c.requires While c.in-While.ensures c.top-at.ensures (omega arith)

pub returns-in-Skip : goal.returns-in-Skip
returns-in-Skip c = stepped Skip c.in-Skip.ensures c.top-at.ensures (omega arith) (c.pop.ensures, refl, refl)

pub returns-in-Seq : goal.returns-in-Seq
returns-in-Seq c = stepped Seq c.in-Seq.ensures c.top-at.ensures (omega arith) (c.split.ensures, refl, refl)

pub returns-in-Assign : goal.returns-in-Assign
returns-in-Assign c = stepped (Assign _) c.in-Assign.ensures c.top-at.ensures (omega arith) (c.assign.ensures, refl, refl)

pub returns-in-If : goal.returns-in-If
returns-in-If c = stepped If c.in-If.ensures c.top-at.ensures (omega arith) (c.choose.ensures, refl, refl)

pub returns-in-While : goal.returns-in-While
returns-in-While c = stepped While c.in-While.ensures c.top-at.ensures (omega arith) (c.turn.ensures, refl, refl)

pub returns-in-Wait : goal.returns-in-Wait
returns-in-Wait c = stepped Wait c.in-Wait.ensures c.top-at.ensures (omega arith) (c.wait.ensures, refl, refl)
