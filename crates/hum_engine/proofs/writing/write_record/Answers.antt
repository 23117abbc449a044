use Rattle.hum_engine.proofs.writing.write_record.Goals as goal

pub returns : goal.returns
returns g c = rw c.text_lf.ensures at c.write_all.ensures
