-- A data record as it was given tells what is remembered of each column.
use Rattle.std.proofs.lemmas.Grind.{common_steps}
use Rattle.std.proofs.lemmas.Bool.Decides.{nat_tests}
use Rattle.std.proofs.Common.{◌≡◌, ◌≢◌, ◌∙◌, refl, sym, ℕ, zero, suc, ◌+◌, ◌<◌, ◌≤◌, Bool, true, false, List, [], ◌∷◌, length, map, cond}
use Rattle.std.proofs.Common.{Option, None, Some, inl, inr, arith, get_or}
use Rattle.std.specs.List.{list_any, find, AllByRecursion}
use Rattle.std.proofs.lemmas.Bool.{cases_Bool, or_parts}
use Rattle.std.proofs.lemmas.List.{length-map}
use Rattle.hum_score.specs.declared.records.Kind.TheVariants.{Global, Local as AnyLocal, Interpretation as AnyInterpretation, Values as AnyValues}
use Rattle.hum_score.specs.declared.records.SpinedKind.{SpinedKind}
use Rattle.hum_score.specs.declared.records.SpinedKind.TheVariants.{Local, Interpretation, Values}
use Rattle.hum_score.specs.Row.{Row, Comment, Spined, kind_of, tokens_of, width_of, text_of}
use Rattle.hum_record.specs.Contents.{is_null}
use Rattle.hum_score.specs.Spelling.{IsToken, IsTextOf, kind_of_token, same_kind}
use Rattle.hum_score.specs.declared.spines.Move.{Move}
use Rattle.hum_score.specs.Sign.{sign_of, is_exclusive}
use Rattle.hum_score.specs.Spines.{Path, same_upto, width, moves}
use Rattle.hum_score.specs.Rules.{breaks, in_order}
use Rattle.hum_score.specs.Score.{IsOpen, path_after}
use Rattle.hum_path.specs.Chains.{columns, longer, chain_of}
use Rattle.hum_path.specs.Memories.{remembered, seen_each, Remember}
use Rattle.hum_path.specs.Step.{ComeFrom}
use Rattle.hum_path.proofs.Carry.{sees_on}
use Rattle.hum_path.proofs.Widths.{columns_width, text_width}
use Rattle.hum_path.proofs.Within.{same_below}
use Rattle.hum_ditto.specs.Ditto.{may_repeat, filled, all_filled}
use Rattle.hum_ditto.specs.Memory.{last_seen}
use Rattle.hum_ditto.specs.Held.{seen_alone, Remembered, HasFollowed, IsGivenFor}
use Rattle.hum_ditto.proofs.Tokens.{some_filled, filled_length}

-- a token of another kind than interpretations isn't exclusive
not_exclusive : (token : List ℕ) (kind : SpinedKind) → kind_of_token token ≡ kind → (Interpretation ≡ kind → ⊥) → is_exclusive (sign_of token) ≡ false
not_exclusive = grind (arith, nat_tests)

value : Interpretation ≡ Values → ⊥
value e = cc

comment : Interpretation ≡ Local → ⊥
comment e = cc

data_exclusive : (token : List ℕ) → IsToken Values token → is_exclusive (sign_of token) ≡ false
data_exclusive token h = not_exclusive token Values h.of_kind value

-- what a cell of data leaves behind
pub null_seen : (token : List ℕ) (last : Option (List ℕ)) → IsToken Values token → is_null token ≡ true → last_seen None token last ≡ last
null_seen token last h null = rw (data_exclusive token h, h.of_kind, null) refl

pub filled_seen : (token : List ℕ) (last : Option (List ℕ)) → IsToken Values token → is_null token ≡ false → last_seen None token last ≡ Some token
filled_seen token last h null = rw (data_exclusive token h, h.of_kind, null) refl

-- what is remembered is remembered of that cell alone
abbrev pub Lasts : Option (List ℕ) → Type 0
Lasts None = Unit {0}
Lasts (Some token) = seen_alone token ≡ Some token

lasts_next : (token : List ℕ) (last : Option (List ℕ)) (e m : Bool) → is_exclusive (sign_of token) ≡ e → may_repeat None token ≡ m → Lasts last
    → Lasts (cond e None (cond m (Some token) last))
lasts_next = grind (arith, nat_tests)

remembered_lasts : (above : List (List ℕ)) → Lasts (remembered (last_seen None) None above)
remembered_lasts [] = tt
remembered_lasts (token ∷ above) = grind (arith, nat_tests, remembered_lasts above, lasts_next)

all_last : (columns : List (List (List ℕ))) → AllByRecursion Lasts (map (remembered (last_seen None) None) columns)
all_last [] = tt
all_last (above ∷ columns) = (remembered_lasts above, all_last columns)

-- the token that is given tells what is remembered behind it
given_tells : (token : List ℕ) (last : Option (List ℕ)) → IsToken Values token → Lasts last
    → seen_alone (filled false last token) ≡ last_seen None token last
given_tells token None h lasts = refl
given_tells token (Some source) h lasts = elim (cases_Bool (is_null token))
    as (λ _. seen_alone (filled false (Some source) token) ≡ last_seen None token (Some source)) [
      | inl null ↦ rw (null_seen token (Some source) h null, null) lasts
      | inr isnt ↦ rw (filled_seen token (Some source) h isnt, isnt) (filled_seen token None h isnt)
    ]

all_tell : (tokens : List (List ℕ)) (memories : List (Option (List ℕ))) → AllByRecursion (IsToken Values) tokens → AllByRecursion Lasts memories
    → length memories ≡ length tokens → map seen_alone (all_filled false memories tokens) ≡ seen_each (last_seen None) tokens memories
all_tell (token ∷ tokens) (last ∷ memories) h lasts same =
    grind (arith, nat_tests, all_tell tokens memories h.1 lasts.1 (omega (arith, same)), given_tells)
all_tell tokens memories h k w = grind (arith, common_steps)

comment_no_data : Global ≡ AnyValues → ⊥
comment_no_data e = cc

comment_no_sign : Global ≡ AnyInterpretation → ⊥
comment_no_sign e = cc

-- as many memories as spines
memories_width : (skip : Option (List ℕ)) (past : List Row) (memories : List (Option (List ℕ))) → Remember (last_seen skip) None past memories
    → IsOpen past → length memories ≡ width (path_after past)
memories_width = grind (arith, nat_tests, length-map, columns_width)

pub data_width : (skip : Option (List ℕ)) (past : List Row) (row : Row) (memories : List (Option (List ℕ))) → Remember (last_seen skip) None past memories
    → IsOpen (row ∷ past) → kind_of row ≡ AnyValues → length memories ≡ width_of row
data_width skip past (Comment text) memories remember sound k = absurd (comment_no_data k)
data_width skip past (Spined Local tokens) memories remember sound k = absurd cc
data_width skip past (Spined Interpretation tokens) memories remember sound k = absurd cc
data_width skip past (Spined Values tokens) memories remember sound k =
    memories_width skip past memories remember sound.0 ∙ sym (text_width (path_after past) tokens sound.1)

-- under data no spine moves
pub data_stays : (past : List Row) (row : Row) (found : List Move) → found ≡ moves (path_after past) row → IsOpen (row ∷ past)
    → kind_of row ≡ AnyValues → found ≡ same_upto 0 (width_of row)
data_stays = grind (arith, nat_tests)

opened_width : (path : Path) (tokens : List (List ℕ)) → find (breaks path tokens) in_order ≡ None → width path ≢ 0 → length tokens ≡ width path
opened_width = grind (arith, nat_tests)

-- an interpretation is as wide as the spines before it, if there are some
pub steered_width : (skip : Option (List ℕ)) (past : List Row) (row : Row) (memories : List (Option (List ℕ))) → Remember (last_seen skip) None past memories
    → IsOpen (row ∷ past) → kind_of row ≡ AnyInterpretation → length memories ≢ 0 → width_of row ≡ length memories
steered_width skip past (Comment text) memories remember sound k some = absurd (comment_no_sign k)
steered_width skip past (Spined Local tokens) memories remember sound k some = absurd cc
steered_width skip past (Spined Values tokens) memories remember sound k some = absurd cc
steered_width skip past (Spined Interpretation tokens) memories remember sound k some =
    let wide = memories_width skip past memories remember sound.0 in
    opened_width (path_after past) tokens sound.1 (λ none. some (wide ∙ none)) ∙ sym wide

-- a data record, and what it became
pub data_followed : (before : Remembered) (after : List (Option (List ℕ))) (row given : Row) (found : List Move)
    → before.options.skip ≡ None → before.options.parentheses ≡ false → kind_of row ≡ AnyValues → IsTextOf row (text_of row) → ComeFrom row found → IsGivenFor before row given
    → after ≡ map seen_alone (tokens_of given) → HasFollowed before row found after
data_followed before after (Comment text) given found none bare k lawful come becomes is past remember sound moved = absurd (comment_no_data k)
data_followed before after (Spined Local tokens) given found none bare k lawful come becomes is past remember sound moved = absurd cc
data_followed before after (Spined Interpretation tokens) given found none bare k lawful come becomes is past remember sound moved = absurd cc
data_followed before after (Spined Values tokens) given found none bare k lawful come becomes is past remember sound moved =
    let wide = data_width before.options.skip past (Spined Values tokens) before.each remember sound refl in
    let old : Remember (last_seen None) None past before.each = rw none at remember in
    let lasts : AllByRecursion Lasts before.each = rw old (all_last (columns past)) in
    let became : tokens_of given ≡ all_filled false before.each tokens = rw bare at (becomes refl).1 in
    let new : after ≡ seen_each (last_seen None) tokens before.each = grind (arith, nat_tests, all_tell) in
    rw none (sees_on (last_seen None) None (Spined Values tokens) past before.each after found come (λ no. absurd cc) new old moved)

-- a cell that is no data and names no spine leaves nothing behind
unseen : (skip : Option (List ℕ)) (token : List ℕ) (last : Option (List ℕ)) (kind : SpinedKind) → kind_of_token token ≡ kind → same_kind kind Values ≡ false
    → is_exclusive (sign_of token) ≡ false → last_seen skip token last ≡ last
unseen skip token last kind is other plain = rw (plain, is, other) refl

comments_unseen : (skip : Option (List ℕ)) (tokens : List (List ℕ)) (memories : List (Option (List ℕ))) → AllByRecursion (IsToken Local) tokens
    → seen_each (last_seen skip) tokens memories ≡ memories
comments_unseen skip (token ∷ tokens) (last ∷ memories) h =
    grind (arith, nat_tests, comments_unseen skip tokens memories h.1)
comments_unseen skip tokens memories h = grind (arith, nat_tests)

plain_unseen : (skip : Option (List ℕ)) (tokens : List (List ℕ)) (memories : List (Option (List ℕ))) → AllByRecursion (IsToken Interpretation) tokens
    → list_any (λ t. is_exclusive (sign_of t)) tokens ≡ false → seen_each (last_seen skip) tokens memories ≡ memories
plain_unseen skip (token ∷ tokens) (last ∷ memories) h plain =
    grind (arith, nat_tests, plain_unseen skip tokens memories h.1, or_parts, unseen)
plain_unseen skip tokens memories h k = grind (arith, nat_tests)

-- a comment changes nothing
pub comment_followed : (memory : Remembered) (row : Row) (found : List Move) → kind_of row ≡ AnyLocal
    → IsTextOf row (text_of row) → ComeFrom row found → HasFollowed memory row found memory.each
comment_followed memory (Comment text) found k lawful come past remember sound moved = remember
comment_followed memory (Spined Local tokens) found k lawful come past remember sound moved =
    sees_on (last_seen memory.options.skip) None (Spined Local tokens) past memory.each memory.each found come (λ no. absurd cc)
    (sym (comments_unseen memory.options.skip tokens memory.each lawful.2)) remember moved
comment_followed memory (Spined Values tokens) found k lawful come past remember sound moved = absurd cc
comment_followed memory (Spined Interpretation tokens) found k lawful come past remember sound moved = absurd cc

-- nor does an interpretation that leaves all spines where they are and names none
pub plain_followed : (memory : Remembered) (after : List (Option (List ℕ))) → after ≡ memory.each → (row : Row) (found : List Move)
    → kind_of row ≡ AnyInterpretation → IsTextOf row (text_of row) → ComeFrom row found → found ≡ same_upto 0 (length memory.each)
    → list_any (λ t. is_exclusive (sign_of t)) (tokens_of row) ≡ false → HasFollowed memory row found after
plain_followed memory after same (Comment text) found k lawful come stay plain past remember sound moved = absurd (comment_no_sign k)
plain_followed memory after same (Spined Local tokens) found k lawful come stay plain past remember sound moved = absurd cc
plain_followed memory after same (Spined Values tokens) found k lawful come stay plain past remember sound moved = absurd cc
plain_followed memory after same (Spined Interpretation tokens) found k lawful come stay plain past remember sound moved =
    sees_on (last_seen memory.options.skip) None (Spined Interpretation tokens) past memory.each after found come (λ _. stay)
    (same ∙ sym (plain_unseen memory.options.skip tokens memory.each lawful.2 plain)) remember moved

-- of an interpretation alone nothing is remembered
nothing_seen : (tokens : List (List ℕ)) (j : ℕ) → AllByRecursion (IsToken Interpretation) tokens → j < length tokens
    → seen_alone (get_or tokens j []) ≡ None
nothing_seen [] j h below = absurd (omega (arith, below))
nothing_seen (token ∷ tokens) (suc j) h below = nothing_seen tokens j h.1 (omega (arith, below))
nothing_seen (token ∷ tokens) zero h below = elim (cases_Bool (is_exclusive (sign_of token))) as (λ _. seen_alone token ≡ None) [
  | inl same ↦ rw same refl
  | inr isnt ↦ unseen None token None Interpretation h.0.of_kind refl isnt
]

data_behind : (tokens signs : List (List ℕ)) (j : ℕ) → AllByRecursion (IsToken Interpretation) signs → j + length tokens ≤ length signs
    → map (remembered (last_seen None) None) (longer tokens (map (chain_of signs []) (same_upto j (length tokens)))) ≡ map seen_alone tokens
data_behind [] signs j h few = refl
data_behind (token ∷ tokens) signs j h few =
    grind (arith, nat_tests, data_behind tokens signs (j + 1) h (omega (arith, few)), nothing_seen)

-- a data record behind an interpretation that opens its spines
pub seen_behind : (row next : Row) → kind_of row ≡ AnyValues → kind_of next ≡ AnyInterpretation → IsTextOf next (text_of next)
    → width_of next ≡ width_of row → (memories : List (Option (List ℕ))) → Remember (last_seen None) None (row ∷ next ∷ []) memories
    → memories ≡ map seen_alone (tokens_of row)
seen_behind = grind (arith, nat_tests, data_behind, comment_no_data, comment_no_sign)

pub stays_behind : (row next : Row) (found : List Move) → kind_of row ≡ AnyValues → kind_of next ≡ AnyInterpretation
    → width_of next ≡ width_of row → found ≡ same_upto 0 (width_of row)
    → (found ≡ moves (path_after []) next) × (found ≡ moves (path_after (next ∷ [])) row)
stays_behind = grind (arith, nat_tests)

-- spines that stay come from spines under the tokens
pub comes_same : (row : Row) (found : List Move) → found ≡ same_upto 0 (width_of row) → ComeFrom row found
comes_same (Comment text) found stays = tt
comes_same (Spined kind tokens) found stays = rw stays (same_below (length tokens) 0 (length tokens) (omega arith))

-- what is given for a data record is as wide, and a record
pub given_width : (memory : Remembered) (row given : Row) → kind_of row ≡ AnyValues → IsGivenFor memory row given → width_of given ≡ width_of row
given_width = grind (arith, nat_tests, filled_length)

pub given_some : (memory : Remembered) (row given : Row) → kind_of row ≡ AnyValues → IsTextOf row (text_of row) → IsGivenFor memory row given
    → tokens_of given ≢ []
given_some = grind (arith, nat_tests, comment_no_data, some_filled)
