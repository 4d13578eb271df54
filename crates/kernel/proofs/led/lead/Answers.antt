use Rattle.kernel.proofs.Leads.{none_clashes}
use Rattle.kernel.proofs.led.lead.Goals as goal

pub returns : goal.returns
returns c = none_clashes c.in_ok-text.ensures.text c.in_ok-lead_text.ensures
