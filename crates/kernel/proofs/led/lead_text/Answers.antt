use Rattle.kernel.proofs.Leads.{whole_end, whole_clash}
use Rattle.kernel.proofs.Progress.{broke}
use Rattle.kernel.proofs.Whole.{some_begins}
use Rattle.kernel.proofs.led.lead_text.Goals as goal

pub carry_on-requires : goal.carry_on-requires
carry_on-requires c = some_begins c.begin.ensures.begun c.begin.ensures.memory c.begin.ensures.stays c.open-ledger.ensures.opened c.requires.text c.requires.room c.open-ledger.ensures.as_many

pub returns-in_err-carry_on : goal.returns-in_err-carry_on
returns-in_err-carry_on c = broke _ _ c.from_residual.result _ c.from_residual.ensures.1 (whole_clash c.begin.ensures.begun c.begin.ensures.memory c.begin.ensures.stays c.open-ledger.ensures.opened c.requires.text c.in_err-carry_on.ensures)

pub returns : goal.returns
returns c = whole_end c.begin.ensures.begun c.begin.ensures.memory c.begin.ensures.stays c.open-ledger.ensures.opened c.requires.text c.in_ok-carry_on.ensures
