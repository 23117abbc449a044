use Rattle.std.proofs.Common.{◌≡◌, ◌++◌, map}
use Rattle.std.specs.List.{list_any}
use Rattle.hum_score.specs.Row.{tokens_of}
use Rattle.hum_context.specs.Options.{choice_of}
use Rattle.hum_context.specs.Heard.{heard_of, is_taken}
use Rattle.hum_context.proofs.heard.hear_all.Given as goal

abbrev pub invariant-loop-token : goal.invariant-loop-token
invariant-loop-token l = record {
  kept : l.options ≡ l.fn.options;
  heard : l.heard.items ++ map (heard_of (choice_of l.fn.options)) l.token-iterator ≡ map (heard_of (choice_of l.fn.options)) (tokens_of l.row);
  any : l.any ≡ list_any is_taken l.heard.items;
}
