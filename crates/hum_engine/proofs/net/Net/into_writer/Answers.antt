use Rattle.hum_engine.proofs.Running.{partly}
use Rattle.hum_engine.proofs.net.Net.into_writer.Goals as goal

pub returns-clause-front : goal.returns-clause-front
returns-clause-front g c start s now h = partly h
