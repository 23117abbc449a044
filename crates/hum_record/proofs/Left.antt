-- Tokens that are left of a record, one after another.
use Rattle.std.proofs.lemmas.Grind.{common_steps}
use Rattle.std.proofs.lemmas.Bool.Decides.{nat_tests}
use Rattle.std.proofs.Common.{◌≡◌, ◌≢◌, ◌∙◌, ℕ, suc, ◌+◌, ◌-◌, ◌<◌, ◌≤◌, Bool, true, false, List, [], ◌∷◌, ◌++◌}
use Rattle.std.proofs.Common.{length, take, drop, get_or, set, ◌⊎◌, ⊎_elim, ◌==◌, if◌then◌else◌, refl, sym, ap, subst, arith, add-one, append_assoc}
use Rattle.std.proofs.Common.{length-append, length-drop, drop-drop, drop-cons, take_at, drop_at, take-add}
use Rattle.std.proofs.lemmas.List.{length-take-le, drop-set-lt, length-set, take_more_set, take-append-drop}
use Rattle.std.proofs.lemmas.List.Edits.{drop-paste, take-paste, length-paste}
use Rattle.std.proofs.Math.Seq.{paste}
use Rattle.std.specs.List.{copy_within, AllByRecursion, list_any}
use Rattle.hum_score.specs.declared.records.SpinedKind.{SpinedKind}
use Rattle.hum_score.specs.Row.{Row, Comment, Spined, tokens_of, width_of, chosen, with_chosen}
use Rattle.hum_score.specs.Spelling.{IsToken, IsTextOf, parts}
use Rattle.hum_record.specs.Fields.{ends_from, row_in, AreFields}
use Rattle.hum_record.specs.Building.{spelled}
use Rattle.hum_record.proofs.Ends.{length-ends_from, ends_push}
use Rattle.hum_record.proofs.Drafts.{spelled_push, again}
use Rattle.hum_record.proofs.Laws.{only, row_read}

-- what follows a token: a tab and the others, or nothing
abbrev pub tabbed : List (List ℕ) → List ℕ
tabbed [] = []
tabbed (t ∷ ts) = 9 ∷ spelled (t ∷ ts)

spelled_first : (t : List ℕ) (ts : List (List ℕ)) → spelled (t ∷ ts) ≡ t ++ tabbed ts
spelled_first = grind (arith, common_steps)

-- what is put where it stands already
stays : (text : List ℕ) (at n : ℕ) → at + n ≤ length text → text ≡ paste text at (drop at text) n
stays = grind (arith, nat_tests, length-drop, paste, take-append-drop, take-add, take-paste, drop-paste)

pub moved_nowhere : (text : List ℕ) (from end to : ℕ) → to ≤ from → from ≤ end → end ≤ length text → from ≤ to
    → text ≡ copy_within text from end to
moved_nowhere = grind (arith, nat_tests, stays)

-- In front stand the tokens that were left so far, behind them what is still to come, where it was.
pub record Leaving (len count begin j : ℕ) (text ends : List ℕ) (marks : List Bool) (all : List (List ℕ)) : Type 0 where
  pub made : List (List ℕ)
  pub coming : List (List ℕ)
  pub whole : made ++ chosen (drop j marks) coming ≡ all
  pub as_many : length coming + j ≡ length marks
  pub text_left : take len text ≡ spelled made
  pub text_behind : drop begin (9 ∷ text) ≡ tabbed coming
  pub ends_left : take count ends ≡ ends_from 0 made
  pub ends_behind : drop j ends ≡ ends_from begin coming
  pub within : len ≤ length text
  pub fewer : count ≤ j
  pub some_ends : j ≤ length ends
  pub none : count ≡ 0 → len ≡ 0
  pub less : 0 < count → len < begin

-- the token that comes next
pub record Next (begin j : ℕ) (text ends : List ℕ) (coming : List (List ℕ)) : Type 0 where
  pub token : List ℕ
  pub others : List (List ℕ)
  pub is : coming ≡ token ∷ others
  pub end_is : get_or ends j 0 ≡ begin + length token
  pub text_is : drop begin (9 ∷ text) ≡ 9 ∷ (token ++ tabbed others)
  pub ends_after : drop (j + 1) ends ≡ ends_from (begin + length token + 1) others

none_made : (made : List (List ℕ)) → length made ≡ 0 → made ≡ []
none_made = grind (arith, common_steps)

alone : (made : List (List ℕ)) (t : List ℕ) → made ≡ [] → spelled (made ++ t ∷ []) ≡ spelled made ++ t
alone = grind (arith, nat_tests)

-- what stands one place on stands behind a byte more
one_before : (begin : ℕ) (text : List ℕ) → 0 < begin → drop (begin - 1) text ≡ drop begin (9 ∷ text)
one_before = grind (arith, nat_tests)

after_tab : (begin : ℕ) (text token : List ℕ) (others : List (List ℕ)) → drop begin (9 ∷ text) ≡ 9 ∷ (token ++ tabbed others)
    → drop begin text ≡ token ++ tabbed others
after_tab begin text token others e = grind (arith, nat_tests, drop-drop 1 begin (9 ∷ text))

same_head : (a b : ℕ) (xs ys : List ℕ) → a ∷ xs ≡ b ∷ ys → (a ≡ b) × (xs ≡ ys)
same_head a b xs ys e = (cc, cc)

next : (begin j : ℕ) (text ends : List ℕ) (coming : List (List ℕ)) → 0 < length coming
    → drop begin (9 ∷ text) ≡ tabbed coming → drop j ends ≡ ends_from begin coming → Next begin j text ends coming
next begin j text ends [] some behind ends_behind = absurd (omega (arith, some))
next begin j text ends (t ∷ ts) some behind ends_behind =
    let size = ap length ends_behind in
    let less : j < length ends = omega (arith, size, length-drop j ends) in
    let both = same_head _ _ _ _ (sym (drop-cons ends j 0 less) ∙ ends_behind) in
    record {
      token = t;
      others = ts;
      is = refl;
      end_is = both.0;
      text_is = behind ∙ ap (λ l. 9 ∷ l) (spelled_first t ts);
      ends_after = rw add-one both.1;
    }

-- nothing is left as yet
pub begins_left : (text ends : List ℕ) (marks : List Bool) (ts : List (List ℕ)) → ts ≢ [] → text ≡ spelled ts
    → ends ≡ ends_from 0 ts → length marks ≡ length ends → Leaving 0 0 0 0 text ends marks (chosen marks ts)
begins_left text ends marks [] filled e cut wide = absurd (filled refl)
begins_left text ends marks (t ∷ ts) filled e cut wide = grind (arith, nat_tests, length-ends_from)

module _ (len count begin j : ℕ) (text ends : List ℕ) (marks : List Bool) (all : List (List ℕ))
    (l : Leaving len count begin j text ends marks all) (within : j < length marks) where
  pub some : 0 < length l.coming
  some = let m = l.as_many in omega (arith, m, within)

  pub n : Next begin j text ends l.coming
  n = next begin j text ends l.coming some l.text_behind l.ends_behind

  -- where it ends, in what is held
  pub end_least : begin ≤ get_or ends j 0
  end_least = let e = n.end_is in omega (arith, e)

  end_most_size : begin + length n.token ≤ length text
  end_most_size =
      grind (arith, nat_tests, length-drop begin (9 ∷ text), length-append n.token (tabbed n.others))

  pub end_most : get_or ends j 0 ≤ length text
  end_most = let e = n.end_is in let s = end_most_size in omega (arith, e, s)

  pub ends_more : j < length ends
  ends_more = grind (arith, common_steps)

  -- the marks and the tokens that come
  marks_are : drop j marks ≡ get_or marks j false ∷ drop (j + 1) marks
  marks_are = rw add-one (drop-cons marks j false within)

  skipped : get_or marks j false ≡ false → chosen (drop j marks) l.coming ≡ chosen (drop (j + 1) marks) n.others
  skipped isnt = ap (chosen (drop j marks)) n.is ∙ rw (marks_are, isnt) refl

  taken : get_or marks j false ≡ true → chosen (drop j marks) l.coming ≡ n.token ∷ chosen (drop (j + 1) marks) n.others
  taken is = ap (chosen (drop j marks)) n.is ∙ rw (marks_are, is) refl

  -- what comes behind the next token
  behind_next : drop (get_or ends j 0 + 1) (9 ∷ text) ≡ tabbed n.others
  behind_next =
      let e = n.end_is in
      let far : get_or ends j 0 + 1 ≡ begin + suc (length n.token) = omega (arith, e) in
      ap (λ k. drop k (9 ∷ text)) far
      ∙ sym (drop-drop (suc (length n.token)) begin (9 ∷ text))
      ∙ ap (drop (suc (length n.token))) n.text_is
      ∙ drop_at n.token (tabbed n.others) (length n.token) refl

  others_many : length n.others + (j + 1) ≡ length marks
  others_many = let m = l.as_many in let e = ap length n.is in omega (arith, m, e)

  -- it isn't chosen
  pub skips : get_or marks j false ≡ false → Leaving len count (get_or ends j 0 + 1) (j + 1) text ends marks all
  skips isnt =
      let e = n.end_is in
      record {
        made = l.made;
        coming = n.others;
        whole = ap (λ rest. l.made ++ rest) (sym (skipped isnt)) ∙ l.whole;
        as_many = others_many;
        text_left = l.text_left;
        text_behind = behind_next;
        ends_left = l.ends_left;
        ends_behind = n.ends_after ∙ ap (λ k. ends_from (k + 1) n.others) (sym e);
        within = l.within;
        fewer = let f = l.fewer in omega (arith, f);
        some_ends = let m = ends_more in omega (arith, m);
        none = l.none;
        less = λ some. let f = l.less some in let b = end_least in omega (arith, f, b);
      }

  -- It is: it is moved to the left, with what goes before it.
  module _ (is : get_or marks j false ≡ true) (from size : ℕ) (ends_at : from + size ≡ get_or ends j 0)
      (not_before : len ≤ from) (front : List ℕ) (reads : take size (drop from text) ≡ front)
      (joins : spelled (l.made ++ n.token ∷ []) ≡ spelled l.made ++ front) (new : List ℕ)
      (copied : new ≡ copy_within text from (get_or ends j 0) len) where
    pasted : new ≡ paste text len (drop from text) size
    pasted = grind (arith, nat_tests)

    held : size ≤ length (drop from text)
    held = let m = end_most in omega (arith, m, ends_at, length-drop from text)

    pub same_length : length new ≡ length text
    same_length = grind (arith, nat_tests, end_most, held, pasted, length-paste)

    left_now : take (len + size) new ≡ spelled (l.made ++ n.token ∷ [])
    left_now = grind (arith, nat_tests, pasted, take-paste, held)

    behind_now : drop (get_or ends j 0) new ≡ drop (get_or ends j 0) text
    behind_now =
        let more : get_or ends j 0 ≡ (len + size) + (from - len) = omega (arith, ends_at, not_before) in
        let cut : (a : List ℕ) → drop (get_or ends j 0) a ≡ drop (from - len) (drop (len + size) a) =
        λ a. ap (λ k. drop k a) more ∙ sym (drop-drop (from - len) (len + size) a) in
        cut new
        ∙ ap (drop (from - len)) (ap (drop (len + size)) pasted
        ∙ drop-paste text len (drop from text) size l.within held)
        ∙ sym (cut text)

    size_now : length (spelled (l.made ++ n.token ∷ [])) ≡ len + size
    size_now = grind (arith, nat_tests, end_most, same_length, left_now, length-take-le)

    count_less : count < length ends
    count_less = let f = l.fewer in let m = ends_more in omega (arith, f, m)

    ends_now : take (count + 1) (set ends count (len + size)) ≡ ends_from 0 (l.made ++ n.token ∷ [])
    ends_now = grind (arith, nat_tests, size_now, take_more_set, count_less, ends_push)

    pub takes : Leaving (len + size) (count + 1) (get_or ends j 0 + 1) (j + 1) new
        (set ends count (len + size)) marks all
    takes =
        let f = l.fewer in
        let m = end_most in
        let s = same_length in
        let more = ends_more in
        record {
          made = l.made ++ n.token ∷ [];
          coming = n.others;
          whole = grind (arith, nat_tests, append_assoc, taken);
          as_many = others_many;
          text_left = left_now;
          text_behind = rw add-one (behind_now ∙ rw add-one at behind_next);
          ends_left = ends_now;
          ends_behind = grind (arith, nat_tests, drop-set-lt);
          within = omega (arith, m, ends_at, not_before, s);
          fewer = omega (arith, f);
          some_ends = omega (arith, more, length-set ends count (len + size));
          none = λ e. absurd (omega (arith, e));
          less = λ some. omega (arith, ends_at, not_before);
        }

  -- the first that is left goes without the tab
  pub first : count ≡ 0 → get_or marks j false ≡ true → (new : List ℕ)
      → new ≡ copy_within text begin (get_or ends j 0) len
      → Leaving (len + (get_or ends j 0 - begin)) (count + 1) (get_or ends j 0 + 1) (j + 1) new
      (set ends count (len + (get_or ends j 0 - begin))) marks all
  first none is new copied =
      let e = n.end_is in
      let size : get_or ends j 0 - begin ≡ length n.token = omega (arith, e) in
      let zero_len = l.none none in
      let made_none : l.made ≡ [] = grind (arith, nat_tests, none_made, length-ends_from, length-take-le) in
      takes is begin (get_or ends j 0 - begin) (let b = end_least in omega (arith, b)) (omega (arith, zero_len))
      n.token
      (ap (λ k. take k (drop begin text)) size
      ∙ ap (take (length n.token)) (after_tab begin text n.token n.others n.text_is)
      ∙ take_at n.token (tabbed n.others) (length n.token) refl)
      (alone l.made n.token made_none) new copied

  -- every other goes with the tab before it
  pub later : count ≢ 0 → get_or marks j false ≡ true → (new : List ℕ)
      → new ≡ copy_within text (begin - 1) (get_or ends j 0) len
      → Leaving (len + (get_or ends j 0 - (begin - 1))) (count + 1) (get_or ends j 0 + 1) (j + 1) new
      (set ends count (len + (get_or ends j 0 - (begin - 1)))) marks all
  later some_made is new copied =
      let e = n.end_is in
      let less : len < begin = l.less (omega (arith, some_made)) in
      let size : get_or ends j 0 - (begin - 1) ≡ suc (length n.token) = omega (arith, e, less) in
      let before : drop (begin - 1) text ≡ drop begin (9 ∷ text) = one_before begin text (omega (arith, less)) in
      let made_some : l.made ≢ [] = grind (arith, nat_tests, ends_more, length-ends_from, length-take-le) in
      takes is (begin - 1) (get_or ends j 0 - (begin - 1)) (omega (arith, e, less)) (omega (arith, less))
      (9 ∷ n.token)
      (ap (λ k. take k (drop (begin - 1) text)) size
      ∙ ap (take (suc (length n.token))) (before ∙ n.text_is)
      ∙ ap (λ l. 9 ∷ l) (take_at n.token (tabbed n.others) (length n.token) refl))
      (spelled_push l.made n.token made_some) new copied

  -- what is moved begins at the first that is left, of every other at the tab before it
  module _ (end from : ℕ) (end_is : end ≡ get_or ends j 0)
      (from_is : from ≡ (if count == 0 then begin else begin - 1)) where
    which : ((count ≡ 0) × (from ≡ begin)) ⊎ ((count ≢ 0) × (from ≡ begin - 1))
    which = grind (arith, nat_tests)

    pub from_most : from ≤ end
    from_most = grind (arith, nat_tests, end_least, ⊎_elim, which)

    pub from_least : len ≤ from
    from_least = grind (arith, nat_tests)

    pub fits_from : len + (end - from) ≤ length text
    fits_from = grind (arith, nat_tests, from_most, from_least, end_most)

    pub takes_from : get_or marks j false ≡ true → (new : List ℕ) → new ≡ copy_within text from end len
        → Leaving (len + (end - from)) (count + 1) (end + 1) (j + 1) new
        (set ends count (len + (end - from))) marks all
    takes_from chosen new copied =
        rw end_is (⊎_elim
        (λ x. rw (x.1) (first x.0 chosen new (rw (end_is, x.1) at copied)))
        (λ x. rw (x.1) (later x.0 chosen new (rw (end_is, x.1) at copied)))
        which)

-- all were passed
pub all_left : (len count begin j : ℕ) (text ends : List ℕ) (marks : List Bool) (all : List (List ℕ))
    → (l : Leaving len count begin j text ends marks all) → length marks ≤ j → l.made ≡ all
all_left = grind (arith, common_steps)

-- A record with its chosen tokens

chosen_lawful : (k : SpinedKind) (fs : List Bool) (ts : List (List ℕ)) → AllByRecursion (IsToken k) ts
    → AllByRecursion (IsToken k) (chosen fs ts)
chosen_lawful k (true ∷ fs) (t ∷ ts) h = (h.0, chosen_lawful k fs ts h.1)
chosen_lawful k (false ∷ fs) (t ∷ ts) h = chosen_lawful k fs ts h.1
chosen_lawful k fs ts h = grind (arith, nat_tests)

pub chosen_filled : (fs : List Bool) (ts : List (List ℕ)) → length fs ≡ length ts → list_any (λ b. b) fs ≡ true → chosen fs ts ≢ []
chosen_filled (false ∷ fs) (t ∷ ts) wide marked e = chosen_filled fs ts (omega (arith, wide)) marked e
chosen_filled fs ts h k w = grind (arith, nat_tests)

-- the tokens of a record that has some are the parts of its text
pub parts_are : (text : List ℕ) (row : Row) → IsTextOf row text → 0 < width_of row → parts text ≡ tokens_of row
parts_are = grind (arith, nat_tests, again)

-- what a record's fields are once the others were dropped
pub record LeftFields (marks : List Bool) (row : Row) (text ends : List ℕ) : Type 0 where
  pub fields : AreFields text ends
  pub is : row_in text ≡ with_chosen marks row

left_fields : (row : Row) (old text ends : List ℕ) (marks : List Bool) → IsTextOf row old → length marks ≡ width_of row
    → list_any (λ b. b) marks ≡ true → text ≡ spelled (chosen marks (parts old)) → ends ≡ ends_from 0 (chosen marks (parts old))
    → length text ≤ length old → LeftFields marks row text ends
left_fields (Comment comment) old text ends [] h wide marked spells cut short = cc
left_fields (Comment comment) old text ends (m ∷ ms) h wide marked spells cut short = absurd (omega (arith, wide))
left_fields (Spined k []) old text ends marks h wide marked spells cut short = absurd (h.1 refl)
left_fields (Spined k (t ∷ ts)) old text ends marks h wide marked spells cut short =
    let are : parts old ≡ t ∷ ts = parts_are old (Spined k (t ∷ ts)) h (omega arith) in
    let all = t ∷ ts in
    let is_text : IsTextOf (Spined k (chosen marks all)) text =
    grind (arith, nat_tests, chosen_filled, chosen_lawful) in
    let is = row_read text _ (only text _ is_text) in
    record {
      fields = grind (arith, nat_tests, is_text);
      is = is;
    }

module _ (row : Row) (text ends : List ℕ) (marks : List Bool) (fields : AreFields text ends) (view : row_in text ≡ row)
    (wide : length marks ≡ width_of row) (marked : list_any (λ b. b) marks ≡ true) where
  is_text : IsTextOf row text
  is_text = subst (λ (r : Row). IsTextOf r text) view fields.lawful

  ends_are : ends ≡ ends_from 0 (tokens_of row)
  ends_are = fields.cut ∙ ap (λ (r : Row). ends_from 0 (tokens_of r)) view

  pub ends_cut : ends ≡ ends_from 0 (parts text)
  ends_cut = grind (arith, common_steps)

  pub ends_wide : length marks ≡ length ends
  ends_wide = wide ∙ sym (ap length ends_are ∙ length-ends_from 0 (tokens_of row))

  pub retained : (new_text new_ends : List ℕ) → new_text ≡ spelled (chosen marks (parts text))
      → new_ends ≡ ends_from 0 (chosen marks (parts text)) → length new_text ≤ length text
      → LeftFields marks row new_text new_ends
  retained new_text new_ends = left_fields row text new_text new_ends marks is_text wide marked
