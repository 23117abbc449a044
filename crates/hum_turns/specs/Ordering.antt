-- The order that a type of orders has.
use Rattle.hum_turns.specs.declared.order.Order.{Ghosts as Orders}
use Rattle.hum_turns.specs.Orders.{Order}

abbrev pub order_of : {O : Type 0} → Orders O → Order O
order_of o = record { pick = o.picks; next = o.after }
