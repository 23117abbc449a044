-- Scores that are transposed, and then transposed again or told in other terms.
use Rattle.std.proofs.Common.{◌≡◌, refl, sym, ℕ, ℤ, ◌+ℤ◌, List, [], ◌∷◌}
use Rattle.std.specs.Prelude.{neg_ℤ, Option, Some, Result, Ok}
use lib.Chars.{codes}
use Rattle.hum_score.specs.Row.{Row}
use Rattle.hum_stage.specs.declared.faults.Rule.{Rule}
use Rattle.hum_words.specs.declared.commands.Command.TheVariants.{Trans, Semits, Recip}
use Rattle.hum_stage.specs.declared.faults.End.TheVariants.{Closed}
use Rattle.hum_score.specs.InOrder.{IsScore}
use Rattle.hum_stage.specs.Meaning.{KeepsScore}
use Rattle.hum_cells.specs.Rewriting.{Renamed, Followed, rewrite}
use Rattle.hum_choices.specs.declared.semits.SemitsOptions.{SemitsOptions}
use Rattle.hum_choices.specs.declared.recip.RecipOptions.{RecipOptions}
use Rattle.hum_tones.specs.Commands.{trans, trans_sign, semits, meaning_of_semits, recip, meaning_of_recip}
use Rattle.hum_tones.specs.Subtokens.{rewritten}
use Rattle.hum_tones.specs.Trans.{transposed, transposed_part}
use Rattle.hum_tones.specs.Semits.{semits_of}
use Rattle.hum_tones.specs.Recip.{recip_of}
use Rattle.hum_laws.specs.declared.given.Given.{Given}
use Rattle.hum_laws.specs.Piped.{IsAlone, IsPiped}
use Rattle.hum_laws.specs.Shifting.{semits_higher}
use Rattle.hum_laws.specs.Transposing.{moved_by, transposed_under, semitones_under, as_semitones, durations_under}
use Rattle.hum_laws.proofs.Runs.{alone_runs, piped_runs}
use Rattle.hum_laws.proofs.Marks.{Signs, marks, alone_marks}
use Rattle.hum_laws.proofs.Tokens.{trans_agree}
use Rattle.hum_laws.proofs.Undone.{added, shifted}
use Rattle.hum_laws.proofs.Signs.{back_unsigned}
use Rattle.hum_laws.proofs.Lasts.{lasts}
use Rattle.hum_laws.specs.Unsigned.{unsigned, unsigned_under}

behind_trans : (n m : ℤ) (second both : List ℕ → Result (Option (List ℕ)) Rule)
    → ((part text : List ℕ) → transposed_part n m part ≡ Ok (Some text) → both part ≡ second text)
    → Signs (trans_sign n m) (λ above. transposed n m) (rewritten second) (λ above. rewritten both)
behind_trans n m second both h = record { agree = trans_agree n m second both h; plain = refl; no_kern = refl }

pub adds_up : (n m k l : ℤ) (p : List Row) (given : Given) → IsPiped (moved_by 1 n m) (moved_by 2 k l) p given
    → KeepsScore (moved_by 1 n m).outcomes → IsScore p → given.end ≡ Closed
    → given.records.items ≡ transposed_under (trans_sign k l ∷ trans_sign n m ∷ []) (n +ℤ k) (m +ℤ l) p
adds_up n m k l p given h keeps score closed =
    marks (Followed (trans_sign k l)) (trans_sign n m) (λ above. transposed n m) (transposed k l) (λ above. transposed (n +ℤ k) (m +ℤ l))
    (behind_trans n m (transposed_part k l) (transposed_part (n +ℤ k) (m +ℤ l)) (λ part text e. sym (added n m k l part text e)))
    p given.records.items score (piped_runs 1 2 Trans Trans (rewrite (trans n m)) (rewrite (trans k l)) p given h keeps score closed)

pub moves_alone : (n m : ℤ) (p : List Row) (given : Given) → IsAlone (moved_by 1 n m) p given → given.end ≡ Closed
    → given.records.items ≡ transposed_under (trans_sign n m ∷ []) n m p
moves_alone n m p given h closed =
    alone_marks (Followed (trans_sign n m)) (λ above. transposed n m) p given.records.items (alone_runs 1 Trans (rewrite (trans n m)) p given h closed)

pub semits_moved : (n m : ℤ) (options : SemitsOptions) (p : List Row) (given : Given) → IsPiped (moved_by 1 n m) (meaning_of_semits 2 options) p given
    → KeepsScore (moved_by 1 n m).outcomes → IsScore p → given.end ≡ Closed
    → given.records.items ≡ semitones_under (trans_sign n m ∷ []) m options.ties_left_out p
semits_moved n m options p given h keeps score closed =
    marks (Renamed (codes "**semits")) (trans_sign n m) (λ above. transposed n m) (rewritten (semits_of options.ties_left_out))
    (λ above. rewritten (semits_higher m options.ties_left_out))
    (behind_trans n m (semits_of options.ties_left_out) (semits_higher m options.ties_left_out)
    (λ part text e. sym (shifted options.ties_left_out n m part text e)))
    p given.records.items score (piped_runs 1 2 Trans Semits (rewrite (trans n m)) (rewrite (semits options)) p given h keeps score closed)

pub semits_alone : (options : SemitsOptions) (p : List Row) (given : Given) → IsAlone (meaning_of_semits 1 options) p given → given.end ≡ Closed
    → given.records.items ≡ as_semitones options.ties_left_out p
semits_alone options p given h closed =
    alone_marks (Renamed (codes "**semits")) (λ above. rewritten (semits_of options.ties_left_out)) p given.records.items
    (alone_runs 1 Semits (rewrite (semits options)) p given h closed)

pub back_again : (n m : ℤ) (p : List Row) (given : Given) → IsPiped (moved_by 1 n m) (moved_by 2 (neg_ℤ n) (neg_ℤ m)) p given
    → KeepsScore (moved_by 1 n m).outcomes → IsScore p → given.end ≡ Closed
    → given.records.items ≡ unsigned_under (trans_sign (neg_ℤ n) (neg_ℤ m) ∷ trans_sign n m ∷ []) p
back_again n m p given h keeps score closed =
    marks (Followed (trans_sign (neg_ℤ n) (neg_ℤ m))) (trans_sign n m) (λ above. transposed n m) (transposed (neg_ℤ n) (neg_ℤ m)) (λ above. rewritten unsigned)
    (behind_trans n m (transposed_part (neg_ℤ n) (neg_ℤ m)) unsigned (λ part text e. back_unsigned n m part text e))
    p given.records.items score (piped_runs 1 2 Trans Trans (rewrite (trans n m)) (rewrite (trans (neg_ℤ n) (neg_ℤ m))) p given h keeps score closed)

pub recip_behind : (n m : ℤ) (options : RecipOptions) (p : List Row) (given : Given) → IsPiped (moved_by 1 n m) (meaning_of_recip 2 options) p given
    → KeepsScore (moved_by 1 n m).outcomes → IsScore p → given.end ≡ Closed → given.records.items ≡ durations_under (trans_sign n m ∷ []) p
recip_behind n m options p given h keeps score closed =
    marks (Renamed (codes "**recip")) (trans_sign n m) (λ above. transposed n m) (rewritten recip_of) (λ above. rewritten recip_of)
    (behind_trans n m recip_of recip_of (lasts n m))
    p given.records.items score (piped_runs 1 2 Trans Recip (rewrite (trans n m)) (rewrite (recip options)) p given h keeps score closed)

pub recip_alone : (options : RecipOptions) (p : List Row) (given : Given) → IsAlone (meaning_of_recip 1 options) p given → given.end ≡ Closed
    → given.records.items ≡ durations_under [] p
recip_alone options p given h closed =
    alone_marks (Renamed (codes "**recip")) (λ above. rewritten recip_of) p given.records.items
    (alone_runs 1 Recip (rewrite (recip options)) p given h closed)
