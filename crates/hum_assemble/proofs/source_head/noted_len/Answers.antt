use Rattle.hum_assemble.proofs.Bytes.{tokens_len_text}
use Rattle.hum_assemble.proofs.source_head.noted_len.Goals as goal

pub returns : goal.returns
returns c = rw c.text.ensures.text (tokens_len_text _ c.requires c.kind-kind.ensures.lawful)
