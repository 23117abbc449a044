-- How many bytes a record has, and how many spines stand behind one.
use Rattle.std.proofs.lemmas.Grind.{common_steps}
use Rattle.std.proofs.lemmas.Bool.Decides.{nat_tests}
use Rattle.std.proofs.Common.{◌≡◌, refl, ℕ, zero, suc, ◌+◌, ◌*◌}
use Rattle.std.proofs.Common.{Bool, true, false, List, [], ◌∷◌, ◌++◌, length}
use Rattle.std.proofs.Common.{arith, map, replicate}
use Rattle.std.specs.Prelude.{nat_lt, Option, None, Some}
use Rattle.std.specs.List.{join_with_byte}
use Rattle.std.proofs.lemmas.List.{length-map}
use Rattle.hum_score.specs.declared.records.SpinedKind.{SpinedKind}
use Rattle.hum_score.specs.declared.records.Kind.TheVariants.{Global}
use Rattle.hum_score.specs.Row.{Row, Comment, Spined, kind_of, tokens_of, text_of}
use Rattle.hum_score.specs.Spelling.{IsTextOf}
use Rattle.hum_score.specs.declared.spines.Sign.{Sign}
use Rattle.hum_score.specs.Sign.{sign_of, is_join}
use Rattle.hum_score.specs.Spines.{Spines, width, heirs_from}
use Rattle.hum_score.specs.Spines.{names_after}
use Rattle.hum_assemble.specs.Sizes.{width_under, tokens_len}
use Rattle.hum_assemble.specs.declared.places.Place.{Place}
use Rattle.hum_assemble.specs.Source.{Source}
use Rattle.hum_assemble.specs.Places.{null_at, kind_at}
use Rattle.hum_assemble.specs.Round.{still_free}
use Rattle.hum_assemble.specs.Merge.{part_given, comment_given, tokens_given, made, row_of_kind}
use Rattle.hum_assemble.specs.Taking.{bytes_given}

pub tokens_len_append : (xs ys : List (List ℕ)) → tokens_len (xs ++ ys) ≡ tokens_len xs + tokens_len ys
tokens_len_append [] ys = omega arith
tokens_len_append (x ∷ xs) ys = let e = tokens_len_append xs ys in omega (arith, e)

pub tokens_len_replicate : (n : ℕ) (token : List ℕ) → tokens_len (replicate n token) ≡ n * (length token + 1)
tokens_len_replicate zero token = omega arith
tokens_len_replicate (suc n) token = let e = tokens_len_replicate n token in grind (arith, e)

pub tokens_len_join : (token : List ℕ) (tokens : List (List ℕ))
    → length (join_with_byte 9 (token ∷ tokens)) + 1 ≡ tokens_len (token ∷ tokens)
tokens_len_join token [] = omega arith
tokens_len_join token (x ∷ xs) = grind (arith, common_steps, tokens_len_join x xs)

one_more : (a b : ℕ) → nat_lt (a + 1) (b + 1) ≡ nat_lt a b
one_more = grind (arith, nat_tests)

pub long_join : (tokens : List (List ℕ))
    → nat_lt 1048577 (tokens_len tokens) ≡ nat_lt 1048576 (length (join_with_byte 9 tokens))
long_join [] = refl
long_join (x ∷ xs) = rw (← tokens_len_join x xs) (one_more 1048576 (length (join_with_byte 9 (x ∷ xs))))

pub tokens_len_text : (row : Row) → (kind_of row ≡ Global → ⊥) → IsTextOf row (text_of row)
    → length (text_of row) + 1 ≡ tokens_len (tokens_of row)
tokens_len_text (Comment text) n h = absurd (n refl)
tokens_len_text (Spined kind []) n h = absurd (h.1 refl)
tokens_len_text (Spined kind (x ∷ xs)) n h = tokens_len_join x xs

pub heirs_from_length : (pair : List ℕ) (j : ℕ) (b : Bool) (signs : List Sign)
    → length (heirs_from pair j b signs) ≡ width_under b signs
heirs_from_length pair j b [] = refl
heirs_from_length pair j b (sign ∷ signs) =
    grind (arith, nat_tests, heirs_from_length pair (j + 1) (is_join sign) signs)

-- as many spines come of those that were opened as their signs say
pub width_under_is : (names tokens : List (List ℕ))
    → width_under false (map sign_of tokens) ≡ length (names_after (Spines names) tokens)
width_under_is = grind (arith, nat_tests, heirs_from_length, length-map)

pub tokens_len_nulls : (taken : Bool) (p : Place) (s : Source) (w : ℕ) (null : List ℕ) → taken ≡ false
    → w ≡ width s.path → null ≡ null_at (kind_at p)
    → w * (length null + 1) ≡ tokens_len (part_given taken p s)
tokens_len_nulls = grind (arith, nat_tests, tokens_len_replicate)

pub bytes_given_is : (free going : Bool) (p : Place) (ss : List Source)
    → bytes_given free going p ss ≡ tokens_len (tokens_given free going p ss)
bytes_given_is free going p [] = refl
bytes_given_is free going p (s ∷ ss) =
    grind (arith, nat_tests, bytes_given_is (still_free free going p s) going p ss, tokens_len_append)

made_long : (going : Bool) (p : Place) (ss : List Source) (k : Option SpinedKind) (o : Bool)
    → (k ≡ None → ⊥) → o ≡ nat_lt 1048577 (tokens_len (tokens_given true going p ss))
    → o ≡ nat_lt 1048576
    (length (text_of (row_of_kind k (comment_given going p ss) (tokens_given true going p ss))))
made_long = grind (arith, nat_tests, long_join)

some_not_none : (k : Option SpinedKind) (kind : SpinedKind) → Some kind ≡ k → k ≡ None → ⊥
some_not_none = grind (arith, nat_tests)

pub too_long : (going : Bool) (p : Place) (ss : List Source) (o : Bool) (kind : SpinedKind)
    → Some kind ≡ kind_at p → o ≡ nat_lt 1048577 (bytes_given true going p ss)
    → o ≡ nat_lt 1048576 (length (text_of (made going p ss)))
too_long = grind (arith, nat_tests, made_long, some_not_none, bytes_given_is)
