-- All that is promised of orders: each part, from the file that proves it.
use Rattle.model.specs.Orders.{Parts}
use Rattle.model.proofs.Changes.{lawful}
use Rattle.model.proofs.Commutes.{commutes}
use Rattle.model.proofs.Cost.{ends}
use Rattle.model.proofs.InOrder.{first_order_steps}
use Rattle.model.proofs.Orders.{meets, first_order_tells, goes_on, any_order, one_order_tells}

pub parts : Parts
parts = record {
  lawful = lawful;
  ends = ends;
  commutes = commutes;
  meets = meets;
  first_order_steps = first_order_steps;
  first_order_tells = first_order_tells;
  goes_on = goes_on;
  any_order = any_order;
  one_order_tells = one_order_tells;
}
