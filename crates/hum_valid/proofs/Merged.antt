-- assemble writes lawful records.
use Rattle.std.proofs.Common.{◌≡◌, ◌∙◌, refl, sym, subst, ℕ, zero, suc, ◌≤◌, Bool, true, false, cond, ◌||◌, List, [], ◌∷◌, ◌++◌, map, length, replicate}
use Rattle.std.specs.Prelude.{Option, None, Some}
use Rattle.std.specs.List.{AllByRecursion, list_any}
use Rattle.std.proofs.lemmas.Bool.{and_parts}
use Rattle.hum_score.specs.declared.records.SpinedKind.{SpinedKind}
use Rattle.hum_score.specs.declared.records.SpinedKind.TheVariants.{Local, Interpretation, Values}
use Rattle.hum_score.specs.Row.{Row, Comment, Spined, text_of}
use Rattle.hum_score.specs.Spelling.{IsToken, IsTextOf}
use Rattle.hum_score.specs.Spines.{Path, Unopened, width, after}
use Rattle.hum_score.specs.InOrder.{Follow}
use Rattle.hum_assemble.specs.declared.places.Place.{Place}
use Rattle.hum_assemble.specs.declared.places.Next as next
use Rattle.hum_assemble.specs.declared.places.Next.TheVariants.{Gives, Refused, Wants, Over}
use Rattle.hum_assemble.specs.Source.{Source}
use Rattle.hum_assemble.specs.Change.{Input}
use Rattle.hum_assemble.specs.Head.{AreLawful, AllLawful}
use Rattle.hum_assemble.specs.Places.{kind_at, null_at, is_over}
use Rattle.hum_record.specs.Nulls.{null_of}
use Rattle.hum_assemble.specs.Round.{any_due, takes, still_free}
use Rattle.hum_assemble.specs.Taking.{is_at, IsGiving}
use Rattle.hum_assemble.specs.Merge.{Merge, ahead, given_row, given_on, made, row_of_kind, part_given, tokens_given}
use Rattle.hum_assemble.specs.Merge.{text_of_first, comment_given}
use Rattle.hum_assemble.specs.Meaning.{begun, opening, gives, total, output, AreScores}
use Rattle.hum_assemble.proofs.Fitting.{spined_of, tokens_lawful}
use Rattle.hum_assemble.proofs.Taking.{has_there, all_lawful, filled}
use Rattle.hum_assemble.proofs.Steps.{giving, given_fits}
use Rattle.hum_valid.specs.Records.{IsRecord, AreRecords}
use Rattle.hum_valid.proofs.Lists.{made_of}

-- what is put beside the tokens of other sources

null_lawful : (kind : SpinedKind) → IsToken kind (null_of kind)
null_lawful Local = record { filled = λ e. cc; one_token = refl; one_line = refl; no_line_end = refl; of_kind = refl; no_comment = refl }
null_lawful Interpretation = record { filled = λ e. cc; one_token = refl; one_line = refl; no_line_end = refl; of_kind = refl; no_comment = refl }
null_lawful Values = record { filled = λ e. cc; one_token = refl; one_line = refl; no_line_end = refl; of_kind = refl; no_comment = refl }

all_null : (kind : SpinedKind) (n : ℕ) → AllByRecursion (IsToken kind) (replicate n (null_of kind))
all_null kind zero = tt
all_null kind (suc n) = (null_lawful kind, all_null kind n)

all_both : (kind : SpinedKind) (xs ys : List (List ℕ)) → AllByRecursion (IsToken kind) xs → AllByRecursion (IsToken kind) ys
    → AllByRecursion (IsToken kind) (xs ++ ys)
all_both kind [] ys h k = k
all_both kind (x ∷ xs) ys h k = (h.0, all_both kind xs ys h.1 k)

part_lawful : (free going : Bool) (p : Place) (s : Source) (kind : SpinedKind) → is_over p ≡ false → kind_at p ≡ Some kind
    → AreLawful s.path s.coming → AllByRecursion (IsToken kind) (part_given (takes free going p s) p s)
part_lawful free going p s kind some k l = by (takes free going p s) refl
  where
    by : (b : Bool) → takes free going p s ≡ b → AllByRecursion (IsToken kind) (part_given b p s)
    by true e =
        let t = has_there going p s some l (and_parts free (is_at going p s) e).1 in
        subst (AllByRecursion (IsToken kind)) (sym t.tokens) (tokens_lawful t.row kind (sym k ∙ t.kind) t.lawful)
    by false e =
        subst (λ (o : Option SpinedKind). AllByRecursion (IsToken kind) (replicate (width s.path) (null_at o))) (sym k) (all_null kind (width s.path))

tokens_all : (free going : Bool) (p : Place) (ss : List Source) (kind : SpinedKind) → is_over p ≡ false → kind_at p ≡ Some kind
    → AllLawful ss → AllByRecursion (IsToken kind) (tokens_given free going p ss)
tokens_all free going p [] kind some k l = tt
tokens_all free going p (s ∷ ss) kind some k l =
    all_both kind (part_given (takes free going p s) p s) (tokens_given (still_free free going p s) going p ss)
    (part_lawful free going p s kind some k l.0) (tokens_all (still_free free going p s) going p ss kind some k l.1)

-- a global comment that is given

is_comment : (row : Row) → spined_of row ≡ None → IsTextOf row (text_of row) → IsRecord (Comment (text_of row))
is_comment (Comment text) e h = h
is_comment (Spined kind tokens) e h = cc

comment_record : (going : Bool) (p : Place) (ss : List Source) → is_over p ≡ false → kind_at p ≡ None → AllLawful ss
    → list_any (is_at going p) ss ≡ true → IsRecord (Comment (comment_given going p ss))
comment_record going p [] some k l h = cc
comment_record going p (s ∷ ss) some k l h =
    by (is_at going p s) refl h (λ e. comment_record going p ss some k l.1 e)
  where
    by : (b : Bool) → is_at going p s ≡ b → (b || list_any (is_at going p) ss) ≡ true
        → (list_any (is_at going p) ss ≡ true → IsRecord (Comment (comment_given going p ss)))
        → IsRecord (Comment (cond b (text_of_first s.coming) (comment_given going p ss)))
    by true e w more =
        let t = has_there going p s some l.0 e in
        subst (λ (text : List ℕ). IsRecord (Comment text)) (sym t.text) (is_comment t.row (sym t.kind ∙ k) t.lawful)
    by false e w more = more w

-- Each record that is given is lawful.

made_record : (going : Bool) (p : Place) (ss : List Source) → IsGiving going p ss → AllLawful ss
    → length (text_of (made going p ss)) ≤ 1048576 → IsRecord (made going p ss)
made_record going p ss g l most = by (kind_at p) refl most
  where
    by : (o : Option SpinedKind) → kind_at p ≡ o
        → length (text_of (row_of_kind o (comment_given going p ss) (tokens_given true going p ss))) ≤ 1048576
        → IsRecord (row_of_kind o (comment_given going p ss) (tokens_given true going p ss))
    by None e fits = comment_record going p ss g.some e l g.at
    by (Some kind) e fits =
        made_of kind (tokens_given true going p ss) (filled going p ss kind e g l) (tokens_all true going p ss kind g.some e l) fits

gives_records : (n : ℕ) (m : Merge) → AllLawful m.sources → AreRecords (gives n m)
gives_records zero m l = tt
gives_records (suc n) m l =
    by (ahead m) refl (λ p. gives_records n (given_on p m) (all_lawful true (any_due m.sources) p m.sources l))
  where
    by : (step : next.Next) → ahead m ≡ step → ((p : Place) → AreRecords (gives n (given_on p m)))
        → AreRecords (elim step [
          | Gives p ↦ given_row p m ∷ gives n (given_on p m)
          | Refused rule ↦ []
          | Wants j ↦ []
          | Over ↦ []
        ])
    by (Gives p) e more =
        (made_record (any_due m.sources) p m.sources (giving m.sources m.given p e) l (given_fits (any_due m.sources) m.sources m.given p e), more p)
    by (Refused rule) e more = tt
    by (Wants j) e more = tt
    by Over e more = tt

follow_lawful : (path : Path) (rows : List Row) → Follow path rows → AreRecords rows → AreLawful path rows
follow_lawful path [] f h = tt
follow_lawful path (row ∷ rows) f h =
    (record { sound = f.0; lawful = h.0 }, follow_lawful (after path row) rows f.1 h.1)

begun_lawful : (xs : List Input) → AreScores xs → AllByRecursion (λ x. AreRecords x.put) xs → AllLawful (map begun xs)
begun_lawful [] s h = tt
begun_lawful (x ∷ xs) s h = (follow_lawful Unopened x.put s.0.0 h.0, begun_lawful xs s.1 h.1)

pub merged_records : (xs : List Input) → AreScores xs → AllByRecursion (λ x. AreRecords x.put) xs → AreRecords (output xs)
merged_records xs s h = gives_records (total (opening xs).sources) (opening xs) (begun_lawful xs s h)
