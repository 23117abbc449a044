-- Commands beside which global comments may be dropped first or last.
use Rattle.std.specs.Prelude.{◌≡◌, ℕ, true, false}
use Rattle.hum_choices.specs.declared.rid.RidOptions.{RidOptions}
use Rattle.hum_choices.specs.declared.CommandOptions.{CommandOptions}
use Rattle.hum_choices.specs.declared.CommandOptions.TheVariants.{Extract, Ditto, Cleave}
use Rattle.hum_choices.specs.declared.CommandOptions.TheVariants.{Trans, Semits, Mint, Recip}
use Rattle.hum_commands.specs.Meaning.{meaning}

-- the letter G alone
abbrev pub all_comments : RidOptions
all_comments = record {
  global_comments = true;
  empty_global_comments = false;
  local_comments = false;
  null_local_comments = false;
  interpretations = false;
  null_interpretations = false;
  tandems = false;
  values = false;
  null_values = false;
}

-- a command that tells each record of tokens by those before it, and leaves global comments
abbrev pub TellsByTokens : CommandOptions → Type 0
TellsByTokens (Extract choice) = Unit {0}
TellsByTokens (Ditto options) = Unit {0}
TellsByTokens (Cleave options) = Unit {0}
TellsByTokens (Trans options) = Unit {0}
TellsByTokens (Semits options) = Unit {0}
TellsByTokens (Mint options) = Unit {0}
TellsByTokens (Recip options) = Unit {0}
TellsByTokens _ = ⊥

-- told to do the same
abbrev pub MeanTheSame : CommandOptions → CommandOptions → Type 0
MeanTheSame one other = (stage : ℕ) → meaning stage other ≡ meaning stage one
