use Rattle.std.proofs.Common.{◌∙◌}
use Rattle.hum_engine.proofs.Acting.{told_end}
use Rattle.hum_engine.proofs.web.Web.heard.Goals as goal

pub returns : goal.returns
returns g c s h = told_end h (c.len-last.ensures ∙ c.args.self.now.links.ok.0) c.index.ensures c.heard.ensures
