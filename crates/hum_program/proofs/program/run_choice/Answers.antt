use Rattle.hum_program.proofs.program.run_choice.Goals as goal

pub returns-in-Left : goal.returns-in-Left
returns-in-Left g c = rw c.in-Left.is (record { before = _; after = _; ran = c.run_in_order.ensures })

pub returns-in-Right : goal.returns-in-Right
returns-in-Right g c = rw c.in-Right.is (record { before = _; after = _; ran = c.run_in_order-in-Right.ensures })
