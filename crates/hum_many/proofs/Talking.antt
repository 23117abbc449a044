-- One case behind another.
use Rattle.std.proofs.Common.{◌≡◌, ℕ, ◌+◌, ◌-◌, ◌^◌, ◌<◌, min, List, [], ◌∷◌, ◌++◌, length, refl, sym, ap, subst, ◌∙◌, arith, Bool, true, false, Err, Some, None, Option, inl, inr, ◌⊎◌, append_assoc, append-nil, length-append}
use Rattle.std.specs.List.{concat}
use Rattle.std.specs.Io.KnownBytes.{Appends, Keeps, append_known, prepend_known}
use Rattle.std.proofs.lemmas.List.{append_cancel_left}
use Rattle.std.proofs.KnownBytes.{Appends-nil, Appends-trans, Appends-kept, Keeps-refl, Keeps-trans}
use Rattle.hum_text.specs.declared.calls.Source.{Ghosts as Source}
use Rattle.hum_text.specs.declared.calls.Sink.{Ghosts as Sink}
use Rattle.hum_turns.specs.declared.result.RunResult.TheVariants as ends
use Rattle.hum_turns.specs.Flow.{Begins}
use Rattle.hum_plan.specs.Stages.{Stage}
use Rattle.hum_plan.specs.Grammar.{IsPlanOf}
use Rattle.hum_words.specs.declared.text.TheConstants.{LONGEST_PLAN}
use Rattle.hum_net.specs.declared.outcome.Outcome.{Outcome}
use Rattle.hum_net.specs.declared.outcome.Outcome.TheVariants as outcome
use Rattle.hum_net.specs.Bundles.{IsRefusal}
use Rattle.hum_packets.specs.declared.stop.Stop.{Stop}
use Rattle.hum_packets.specs.declared.stop.Stop.TheVariants as stop
use Rattle.hum_packets.specs.Lists.{StopsInList}
use Rattle.hum_packets.specs.Streams.{Reading, Writing, Took, Lost, HasFailed, Is, IsFront, Grows, Hands, Answers, HasAnswered, IsAnswer, further, coming, going}
use Rattle.hum_packets.specs.Texts.{IsHeld}
use Rattle.hum_packets.proofs.Feeding.{grows-trans}
use Rattle.hum_packets.proofs.Stepping.{took-chain, took-then, took-as, chain-more, concat-one, consumes-is, consumes-front}
use Rattle.hum_many.specs.declared.end.ManyEnd.{ManyEnd}
use Rattle.hum_many.specs.declared.end.ManyEnd.TheVariants as end
use Rattle.hum_many.specs.Ends.{end_of, is_read_end, is_write_end}
use Rattle.hum_many.specs.Cases.{Named, IsCase, IsPlan, TookCase, EndsHere, LostCase}
use Rattle.hum_many.specs.Answers.{told, CaseComes, AnswersCase, AnswerEach}
use Rattle.hum_many.specs.Many.{AnsweredCases, RefusedPlan, StoppedInPlan, StoppedInCase, WroteFront, Written, ManyCome}
use Rattle.hum_many.specs.Talks.{Talked, TalkedToEnd, TalkedTo, ReadFails, HasClosed}

each-more : (plan : List ℕ) (cases : List (List Named)) (answers : List (List ℕ)) (case : List Named) (answer : List ℕ)
    → AnswerEach plan cases answers → AnswersCase plan case answer → AnswerEach plan (cases ++ case ∷ []) (answers ++ answer ∷ [])
unfolding AnswerEach
each-more plan [] [] case answer each one = (one, tt)
each-more plan [] (a ∷ answers) case answer each one = absurd each
each-more plan (c ∷ cases) [] case answer each one = absurd each
each-more plan (c ∷ cases) (a ∷ answers) case answer each one = (each.0, each-more plan cases answers case answer each.1 one)

each-none : (plan : List ℕ) → AnswerEach plan [] []
unfolding AnswerEach
each-none plan = tt

keeps-appends : (a b : Option (List ℕ)) → Keeps a b → Appends a b []
keeps-appends a b kept = Appends-kept a a b [] (Appends-nil a) kept

keeps-first : (a b c : Option (List ℕ)) (bs : List ℕ) → Keeps a b → Appends b c bs → Appends a c bs
keeps-first a b c bs kept more = Appends-trans a b c [] bs (keeps-appends a b kept) more

front-none : (a : Option (List ℕ)) → IsFront a []
front-none None = tt
front-none (Some x) = (x, refl)

is-front : (a : Option (List ℕ)) (bs : List ℕ) → Is a bs → IsFront a bs
is-front None bs is = tt
is-front (Some x) bs is = ([], is ∙ sym (append-nil bs))

module _ {R W : Type 0} (source : Source R) (sink : Sink W) (plan : List ℕ) where
  pub talked-none : (r : Reading R) (w : Writing W) → Talked source sink plan r r w w
  talked-none r w = record {
    cases = [];
    took = took-chain source IsCase r;
    answers = [];
    each = each-none plan;
    wrote = Appends-nil (going sink w);
  }

  pub talked-kept : {a b : Reading R} {x y z : Writing W} → Talked source sink plan a b x y → Keeps (going sink y) (going sink z)
      → Talked source sink plan a b x z
  talked-kept t kept = record {
    cases = t.cases;
    took = t.took;
    answers = t.answers;
    each = t.each;
    wrote = Appends-kept _ _ _ _ t.wrote kept;
  }

  pub talked-more : {a b c : Reading R} {x y z : Writing W} (case : List Named) (answer : List ℕ) → Talked source sink plan a b x y
      → Took source (IsCase case) b c → AnswersCase plan case answer → Appends (going sink y) (going sink z) answer
      → Talked source sink plan a c x z
  talked-more {a} {b} {c} {x} {y} {z} case answer t took one wrote = record {
    cases = t.cases ++ case ∷ [];
    took = took-as source (λ all rest is. chain-more IsCase t.cases case all is.0 rest is.1 is.2) (took-then source t.took took);
    answers = t.answers ++ answer ∷ [];
    each = each-more plan t.cases t.answers case answer t.each one;
    wrote = subst (Appends (going sink x) (going sink z)) (concat-one t.answers answer answer refl)
        (Appends-trans _ _ _ (concat t.answers) answer t.wrote wrote);
  }

module _ {R W : Type 0} (source : Source R) (sink : Sink W) (plan : List ℕ) where
  -- a case more was read, and answered
  pub tell-more : {a b c : Reading R} {w x y z : Writing W} {held : List Named} {large : Bool} (t : TookCase source b c held large)
      (text out : List ℕ) (is : Outcome) → out ≡ text → Talked source sink plan a b w x → Keeps (going sink x) (going sink y)
      → CaseComes plan t.case text is → Answers sink out (told is) y z → Talked source sink plan a c w z
  tell-more {a} {b} {c} {w} {x} {y} {z} t text out is same talked kept comes answered =
      let one : AnswersCase plan t.case answered.answer = record {
        text = text;
        end = is;
        comes = comes;
        is = subst (λ bs. IsAnswer bs (told is) answered.answer) same answered.is;
      } in
      talked-more source sink plan t.case answered.answer talked t.took one (keeps-first _ _ _ answered.answer kept answered.wrote)

  pub tell-stops : {a b c : Reading R} {w x z : Writing W} {held : List Named} {large : Bool} (y : Writing W) (stop : Stop)
      (t : TookCase source b c held large) (text out : List ℕ) (is : Outcome) → out ≡ text → Talked source sink plan a b w x
      → Keeps (going sink x) (going sink y) → CaseComes plan t.case text is → HasAnswered sink out (told is) y z (Err stop)
      → TalkedTo source sink plan a w z stop
  tell-stops y (stop.Broken at) t text out is same talked kept comes answered = absurd answered
  tell-stops y stop.Read t text out is same talked kept comes answered = absurd answered
  tell-stops {a} {b} {c} y stop.Write t text out is same talked kept comes answered =
      record { last = c; talked = tell-more t text out is same talked kept comes answered; lost = tt }
  tell-stops {a} {b} {c} y stop.Memory t text out is same talked kept comes answered =
      record { last = b; talked = talked-kept source sink plan (talked-kept source sink plan talked kept) answered; lost = tt }

module _ {R W : Type 0} (source : Source R) (sink : Sink W) (start : Reading R) (fresh : start.passed ≡ 0) where
  -- nothing was written, and it ends for a failure
  pub none-written : (before after : Writing W) → Keeps (going sink before) (going sink after)
      → (all : List ℕ) → IsFront (coming source start) [] × WroteFront [] []
  none-written before after kept all =
      (front-none (coming source start), record { tail = []; answers = []; are = inl refl; front = ([], refl) })

  -- what is read stops in the plan
  pub plan-stops : (before after : Writing W) (stop : Stop) → Keeps (going sink before) (going sink after)
      → Lost source StopsInList start stop → ManyCome (coming source start) (going sink before) (going sink after) (end_of stop)
  plan-stops before after (stop.Broken at) kept lost = record {
    all = lost.before ++ lost.behind;
    written = [];
    wrote = keeps-appends _ _ kept;
    comes = (
      lost.is,
      record {
        before = lost.before;
        rest = lost.behind;
        whole = refl;
        counts = omega (arith, lost.counts, fresh);
        stops = inl (record { stops = lost.steps; none = refl });
      },
    );
  }
  plan-stops before after stop.Read kept lost = record {
    all = lost.part;
    written = [];
    wrote = keeps-appends _ _ kept;
    comes = (lost.is, record { rest = lost.behind; stops = inl (record { stops = lost.steps; none = refl }) });
  }
  plan-stops before after stop.Write kept lost =
      record { all = []; written = []; wrote = keeps-appends _ _ kept; comes = none-written before after kept [] }
  plan-stops before after stop.Memory kept lost =
      record { all = []; written = []; wrote = keeps-appends _ _ kept; comes = none-written before after kept [] }

  module _ (plan : List ℕ) (is_whole : Bool) (behind : Reading R) (held : IsHeld source (LONGEST_PLAN + 1) start behind plan is_whole) where
    abbrev first : List ℕ
    first = held.took.piece

    is-plan : (rest : List ℕ) → IsPlan plan (first ++ rest) rest
    is-plan rest = record { text = held.all; is = held.took.steps rest; held = held.holds.is }

    -- the plan was refused, and that is answered
    refused-plan : (is : Outcome) (answer : List ℕ) → IsRefusal plan is → IsAnswer [] (told is) answer
        → IsFront (coming source start) first × RefusedPlan first is answer
    refused-plan is answer refused answers = (
      subst (IsFront (coming source start)) (append-nil first) (consumes-front _ _ first [] held.took.consumes (front-none (coming source behind))),
      record {
        plan = plan;
        read = subst (λ all. IsPlan plan all []) (append-nil first) (is-plan []);
        refused = refused;
        answers = answers;
      },
    )

    pub plan-refused : (before after : Writing W) (is : Outcome) (answer : List ℕ) → IsRefusal plan is → IsAnswer [] (told is) answer
        → Appends (going sink before) (going sink after) answer
        → ManyCome (coming source start) (going sink before) (going sink after) (end.Plan is)
    plan-refused before after is answer refused answers wrote = record {
      all = first;
      written = answer;
      wrote = wrote;
      comes = refused-plan is answer refused answers;
    }

    pub plan-unwritten : (before after : Writing W) (is : Outcome) (answer : List ℕ) → IsRefusal plan is → IsAnswer [] (told is) answer
        → Appends (going sink before) (going sink after) answer
        → ManyCome (coming source start) (going sink before) (going sink after) end.Write
    plan-unwritten before after is answer refused answers wrote =
        let whole = refused-plan is answer refused answers in record {
          all = first;
          written = answer;
          wrote = wrote;
          comes = (whole.0, record { tail = []; answers = answer; are = inr (inr (is, whole.1)); front = ([], append-nil answer) });
        }

    module _ (stages : List Stage) (legal : IsPlanOf plan stages) (opening : List ℕ)
        (opened : IsAnswer [] (told (outcome.Run ends.Finished)) opening) (before middle after : Writing W)
        (said : Appends (going sink before) (going sink middle) opening) where
      module _ (last : Reading R) (talked : Talked source sink plan behind last middle after) where
        abbrev second : List ℕ
        second = talked.took.piece

        abbrev whole_text : List ℕ
        whole_text = opening ++ concat talked.answers

        wrote : Appends (going sink before) (going sink after) whole_text
        wrote = Appends-trans _ _ _ opening (concat talked.answers) said talked.wrote

        answered : (rest : List ℕ) → AnsweredCases (first ++ (second ++ rest)) rest whole_text
        answered rest = record {
          plan = plan;
          behind = second ++ rest;
          read = is-plan (second ++ rest);
          opening = opening;
          accepts = record { stages = stages; is = legal; answers = opened };
          cases = talked.cases;
          whole = talked.took.steps rest;
          answers = talked.answers;
          each = talked.each;
          is = refl;
        }

        all-is : (rest : List ℕ) → Is (coming source last) rest → Is (coming source start) (first ++ (second ++ rest))
        all-is rest is = consumes-is _ _ first (second ++ rest) held.took.consumes (consumes-is _ _ second rest talked.took.consumes is)

        all-front : (rest : List ℕ) → IsFront (coming source last) rest → IsFront (coming source start) (first ++ (second ++ rest))
        all-front rest is =
            consumes-front _ _ first (second ++ rest) held.took.consumes (consumes-front _ _ second rest talked.took.consumes is)

        -- all that was read is answered, and then it failed
        failed : IsFront (coming source start) (first ++ (second ++ [])) × WroteFront (first ++ (second ++ [])) whole_text
        failed = (
          all-front [] (front-none (coming source last)),
          record { tail = []; answers = whole_text; are = inr (inl (answered [])); front = ([], append-nil whole_text) },
        )

        pub cases-end : EndsHere source last → ManyCome (coming source start) (going sink before) (going sink after) end.Finished
        cases-end ends = record {
          all = first ++ (second ++ []);
          written = whole_text;
          wrote = wrote;
          comes = (all-is [] ends, answered []);
        }

        counted : (at : ℕ) (bs : List ℕ) → at ≡ further last.passed (length bs)
            → at ≡ min (length (first ++ (second ++ bs))) (2 ^ 64 - 1)
        counted at bs here =
            omega (arith, here, talked.took.counts, held.took.counts, fresh, length-append first (second ++ bs), length-append second bs)

        pub cases-stop : (stop : Stop) → LostCase source last stop
            → ManyCome (coming source start) (going sink before) (going sink after) (end_of stop)
        cases-stop (stop.Broken at) lost =
            let tail = lost.before ++ lost.behind in record {
              all = first ++ (second ++ tail);
              written = whole_text;
              wrote = wrote;
              comes = (
                all-is tail lost.is,
                record {
                  before = first ++ (second ++ lost.before);
                  rest = lost.behind;
                  whole = ap (λ (bs : List ℕ). first ++ bs) (sym (append_assoc second lost.before lost.behind))
                      ∙ sym (append_assoc first (second ++ lost.before) lost.behind);
                  counts = counted at lost.before lost.counts;
                  stops = inr (tail, lost.some, record { answered = answered tail; stops = lost.steps });
                },
              );
            }
        cases-stop stop.Read lost = record {
          all = first ++ (second ++ lost.part);
          written = whole_text;
          wrote = wrote;
          comes = (
            all-front lost.part lost.is,
            record { rest = lost.behind; stops = inr (lost.part, record { answered = answered lost.part; stops = lost.steps }) },
          );
        }
        cases-stop stop.Write lost = record { all = first ++ (second ++ []); written = whole_text; wrote = wrote; comes = failed }
        cases-stop stop.Memory lost = record { all = first ++ (second ++ []); written = whole_text; wrote = wrote; comes = failed }

module _ {R W : Type 0} (source : Source R) (sink : Sink W) (start : Reading R) (fresh : start.passed ≡ 0) (plan : List ℕ) (is_whole : Bool)
    (behind : Reading R) (held : IsHeld source (LONGEST_PLAN + 1) start behind plan is_whole) where
  -- the plan was read, and for want of memory not answered
  told-none : (before middle after : Writing W) → Keeps (going sink before) (going sink middle) → Keeps (going sink middle) (going sink after)
      → ManyCome (coming source start) (going sink before) (going sink after) end.Memory
  told-none before middle after kept more =
      let all = Keeps-trans _ _ _ kept more in
      record { all = []; written = []; wrote = keeps-appends _ _ all; comes = none-written source sink start fresh before after all [] }

  -- it was refused, and that is answered
  pub refused-told : (before middle after : Writing W) (is : Outcome) → IsRefusal plan is → Keeps (going sink before) (going sink middle)
      → Answers sink [] (told is) middle after → ManyCome (coming source start) (going sink before) (going sink after) (end.Plan is)
  refused-told before middle after is refused kept h =
      plan-refused source sink start fresh plan is_whole behind held before after is h.answer refused h.is (keeps-first _ _ _ h.answer kept h.wrote)

  pub refused-stops : (before middle after : Writing W) (is : Outcome) (stop : Stop) → IsRefusal plan is → Keeps (going sink before) (going sink middle)
      → HasAnswered sink [] (told is) middle after (Err stop)
      → ManyCome (coming source start) (going sink before) (going sink after) (end_of stop)
  refused-stops before middle after is (stop.Broken at) refused kept h = absurd h
  refused-stops before middle after is stop.Read refused kept h = absurd h
  refused-stops before middle after is stop.Memory refused kept h = told-none before middle after kept h
  refused-stops before middle after is stop.Write refused kept h =
      plan-unwritten source sink start fresh plan is_whole behind held before after is h.answer refused h.is
      (keeps-first _ _ _ h.answer kept h.wrote)

  -- it was accepted, and that is answered
  module _ {stages : List Stage} (legal : IsPlanOf plan stages) (before middle : Writing W) (kept : Keeps (going sink before) (going sink middle)) where
    pub accepted-stops : (after : Writing W) (stop : Stop) → HasAnswered sink [] (told (outcome.Run ends.Finished)) middle after (Err stop)
        → ManyCome (coming source start) (going sink before) (going sink after) (end_of stop)
    accepted-stops after (stop.Broken at) h = absurd h
    accepted-stops after stop.Read h = absurd h
    accepted-stops after stop.Memory h = told-none before middle after kept h
    accepted-stops after stop.Write h =
        cases-stop source sink start fresh plan is_whole behind held stages legal h.answer h.is before after after
        (keeps-first _ _ _ h.answer kept h.wrote) behind (talked-none source sink plan behind after) stop.Write tt

    module _ (opened after : Writing W) (said : Answers sink [] (told (outcome.Run ends.Finished)) middle opened) where
      pub told-all : TalkedToEnd source sink plan behind opened after
          → ManyCome (coming source start) (going sink before) (going sink after) end.Finished
      told-all t =
          cases-end source sink start fresh plan is_whole behind held stages legal said.answer said.is
          before opened after (keeps-first _ _ _ said.answer kept said.wrote) t.last t.talked t.ends

      pub told-to : (stop : Stop) → TalkedTo source sink plan behind opened after stop
          → ManyCome (coming source start) (going sink before) (going sink after) (end_of stop)
      told-to stop t =
          cases-stop source sink start fresh plan is_whole behind held stages legal said.answer said.is
          before opened after (keeps-first _ _ _ said.answer kept said.wrote) t.last t.talked stop t.lost

-- a sink of which nothing waits
fresh-appends : (a b : Option (List ℕ)) (bs : List ℕ) → Appends (append_known a []) b bs → Appends a b bs
fresh-appends None b bs h = tt
fresh-appends (Some x) None bs h = absurd h
fresh-appends (Some x) (Some y) bs h = h ∙ ap (λ (xs : List ℕ). xs ++ bs) (append-nil x)

sent-appends : (a b : Option (List ℕ)) (bs : List ℕ) → Appends a (append_known b []) bs → Appends a b bs
sent-appends None b bs h = tt
sent-appends (Some x) None bs h = absurd h
sent-appends (Some x) (Some y) bs h = sym (append-nil y) ∙ h

fresh-is : (a : Option (List ℕ)) (bs : List ℕ) → Is (prepend_known [] a) bs → Is a bs
fresh-is None bs h = tt
fresh-is (Some x) bs h = h

fresh-front : (a : Option (List ℕ)) (bs : List ℕ) → IsFront (prepend_known [] a) bs → IsFront a bs
fresh-front None bs h = tt
fresh-front (Some x) bs h = h

-- what a source of which nothing was read tells is what it tells as a whole
written-known : (a : Option (List ℕ)) (all text : List ℕ) (is : ManyEnd) → Written (prepend_known [] a) all text is
    → Written a all text is
written-known a all text end.Finished h = (fresh-is a all h.0, h.1)
written-known a all text (end.Plan is) h = (fresh-front a all h.0, h.1)
written-known a all text (end.Broken at) h = (fresh-is a all h.0, h.1)
written-known a all text end.Read h = (fresh-front a all h.0, h.1)
written-known a all text end.Write h = (fresh-front a all h.0, h.1)
written-known a all text end.Memory h = (fresh-front a all h.0, h.1)

-- what waited was written
pub sent-come : (known old going_old going_new new : Option (List ℕ)) (is : ManyEnd)
    → ManyCome (prepend_known [] known) (append_known old []) going_old is → Keeps going_old going_new → going_new ≡ append_known new []
    → ManyCome known old new is
sent-come known old going_old going_new new is h kept sent = record {
  all = h.all;
  written = h.written;
  wrote = sent-appends old new h.written
      (subst (λ to. Appends old to h.written) sent (fresh-appends old going_new h.written (Appends-kept _ _ _ _ h.wrote kept)));
  comes = written-known known h.all h.written is h.comes;
}

-- A front of the answers was written where a write has failed, however it would have ended else.
front-known : (old new : Option (List ℕ)) (waiting written part : List ℕ) → Appends old new part → Appends old (append_known new waiting) written
    → (some : List ℕ) × Appends old new some × Begins some written
front-known None new waiting written part grown all = ([], tt, (written, refl))
front-known (Some x) None waiting written part grown all = absurd grown
front-known (Some x) (Some y) waiting written part grown all =
    let both : x ++ (part ++ waiting) ≡ x ++ written =
    sym (append_assoc x part waiting) ∙ ap (λ (bs : List ℕ). bs ++ waiting) (sym grown) ∙ all in
    (part, grown, (waiting, append_cancel_left x (part ++ waiting) written both))

front-of : (written some : List ℕ) → (whole : List ℕ) → Begins some written → Begins written whole → Begins some whole
front-of written some whole x y =
    (x.0 ++ y.0, sym (append_assoc some x.0 y.0) ∙ ap (λ (bs : List ℕ). bs ++ y.0) x.1 ∙ y.1)

any-front : (known : Option (List ℕ)) (all written some : List ℕ) (is : ManyEnd) → Written known all written is → Begins some written
    → IsFront known all × WroteFront all some
any-front known all written some end.Finished h part =
    (is-front known all h.0, record { tail = []; answers = written; are = inr (inl h.1); front = part })
any-front known all written some (end.Plan is) h part =
    (h.0, record { tail = []; answers = written; are = inr (inr (is, h.1)); front = part })
any-front known all written some (end.Broken at) h part = (is-front known all h.0, broken h.1.stops)
  where
    broken : StoppedInPlan all h.1.rest written
        ⊎ ((tail : List ℕ) × (0 < length tail) × StoppedInCase all tail h.1.rest written) → WroteFront all some
    broken (inl plan) = record { tail = []; answers = written; are = inl plan.none; front = part }
    broken (inr case) = record { tail = case.0; answers = written; are = inr (inl case.2.answered); front = part }
any-front known all written some end.Read h part = (h.0, ceased h.1.stops)
  where
    ceased : StoppedInPlan all h.1.rest written ⊎ ((tail : List ℕ) × StoppedInCase all tail h.1.rest written) → WroteFront all some
    ceased (inl plan) = record { tail = []; answers = written; are = inl plan.none; front = part }
    ceased (inr case) = record { tail = case.0; answers = written; are = inr (inl case.1.answered); front = part }
any-front known all written some end.Write h part =
    (h.0, record { tail = h.1.tail; answers = h.1.answers; are = h.1.are; front = front-of written some h.1.answers part h.1.front })
any-front known all written some end.Memory h part =
    (h.0, record { tail = h.1.tail; answers = h.1.answers; are = h.1.are; front = front-of written some h.1.answers part h.1.front })

pub unsent-come : (known old going_old new : Option (List ℕ)) (waiting : List ℕ) (is : ManyEnd)
    → ManyCome (prepend_known [] known) (append_known old []) going_old is → Keeps going_old (append_known new waiting) → Grows old new
    → ManyCome known old new end.Write
unsent-come known old going_old new waiting is h kept grown =
    let all = fresh-appends old (append_known new waiting) h.written (Appends-kept _ _ _ _ h.wrote kept) in
    let some = front-known old new waiting h.written grown.0 grown.1 all in record {
      all = h.all;
      written = some.0;
      wrote = some.1;
      comes = any-front known h.all h.written some.0 is (written-known known h.all h.written is h.comes) some.2;
    }

-- nothing was read
pub none-come : (known old : Option (List ℕ)) → ManyCome known old old end.Memory
none-come known old = record {
  all = [];
  written = [];
  wrote = Appends-nil old;
  comes = (front-none known, record { tail = []; answers = []; are = inl refl; front = ([], refl) });
}

-- what came is told to the caller, once what waited was written, or a write has failed
pub close-come : {R W : Type 0} (source : Source R) (sink : Sink W) (start : Reading R) (input : R) (first middle last : Writing W) (output : W)
    (ended is : ManyEnd) → start ≡ record { source = input; last = []; pending = []; passed = 0 } → first ≡ record { sink = output; waiting = [] }
    → ManyCome (coming source start) (going sink first) (going sink middle) ended → Hands sink first middle (is_write_end ended)
    → HasClosed sink middle last ended is → ManyCome (source.remaining input) (sink.contents output) (sink.contents last.sink) is
close-come source sink start input first middle last output ended is unread unasked come hands closed =
    let from_input = subst (λ r. ManyCome (coming source r) (going sink first) (going sink middle) ended) unread come in
    let here = subst (λ w. ManyCome (prepend_known [] (source.remaining input)) (going sink w) (going sink middle) ended) unasked from_input in
    let grown = subst (λ w. Grows (sink.contents w.sink) (sink.contents middle.sink)) unasked hands.grown in
    elim closed as (λ _. ManyCome (source.remaining input) (sink.contents output) (sink.contents last.sink) is) [
      | inl sent ↦ subst (ManyCome (source.remaining input) (sink.contents output) (sink.contents last.sink)) (sym sent.1)
          (sent-come (source.remaining input) (sink.contents output) (going sink middle) (going sink last) (sink.contents last.sink) ended here
          sent.0.serves.kept (ap (append_known (sink.contents last.sink)) sent.0.sent))
      | inr (inl failed) ↦ subst (ManyCome (source.remaining input) (sink.contents output) (sink.contents last.sink)) (sym failed.0)
          (unsent-come (source.remaining input) (sink.contents output) (going sink middle) (sink.contents last.sink) last.waiting ended here
          failed.1.kept (grows-trans _ _ _ grown failed.1.hands.grown))
      | inr (inr before) ↦ subst (ManyCome (source.remaining input) (sink.contents output) (sink.contents last.sink)) (sym before.0)
          (subst (λ w. ManyCome (source.remaining input) (sink.contents output) (sink.contents w.sink) end.Write) (sym before.2)
          (unsent-come (source.remaining input) (sink.contents output) (going sink middle) (sink.contents middle.sink) middle.waiting ended here
          (Keeps-refl (going sink middle)) grown))
    ]

-- a stop for a failed read has one
pub lost-fails : {R : Type 0} (source : Source R) (S : List ℕ → List ℕ → Type 0) (r : Reading R) (stop : Stop) → Lost source S r stop
    → ReadFails source stop
lost-fails source S r (stop.Broken at) lost = tt
lost-fails source S r stop.Read lost = lost.failed
lost-fails source S r stop.Write lost = tt
lost-fails source S r stop.Memory lost = tt

pub case-fails : {R : Type 0} (source : Source R) (r : Reading R) (stop : Stop) → LostCase source r stop → ReadFails source stop
case-fails source r (stop.Broken at) lost = tt
case-fails source r stop.Read lost = lost.failed
case-fails source r stop.Write lost = tt
case-fails source r stop.Memory lost = tt

pub tell-fails : {R W : Type 0} (source : Source R) (sink : Sink W) (text line : List ℕ) (a b : Writing W) (stop : Stop)
    → HasAnswered sink text line a b (Err stop) → ReadFails source stop
tell-fails source sink text line a b (stop.Broken at) h = tt
tell-fails source sink text line a b stop.Read h = absurd h
tell-fails source sink text line a b stop.Write h = tt
tell-fails source sink text line a b stop.Memory h = tt

pub end-fails : {R : Type 0} (source : Source R) (stop : Stop) → ReadFails source stop → is_read_end (end_of stop) ≡ true → HasFailed source
end-fails source (stop.Broken at) h is = absurd (cc)
end-fails source stop.Read h is = h
end-fails source stop.Write h is = absurd (cc)
end-fails source stop.Memory h is = absurd (cc)

never-read : {R : Type 0} (source : Source R) (b : Bool) → (b ≡ true → HasFailed source) → ((reader : R) → source.failed reader ≡ false)
    → b ≡ false
never-read source true h never =
    let one = h refl in
    let clash : true ≡ false = sym one.1 ∙ never one.0 in absurd (cc)
never-read source false h never = refl

pub closed-unread : {R W : Type 0} (source : Source R) (sink : Sink W) (middle last : Writing W) (ended is : ManyEnd)
    → HasClosed sink middle last ended is → (is_read_end ended ≡ true → HasFailed source) → ((reader : R) → source.failed reader ≡ false)
    → is_read_end is ≡ false
closed-unread source sink middle last ended is closed failed never = elim closed as (λ _. is_read_end is ≡ false) [
  | inl sent ↦ ap is_read_end sent.1 ∙ never-read source (is_read_end ended) failed never
  | inr (inl none) ↦ ap is_read_end none.0
  | inr (inr none) ↦ ap is_read_end none.0
]
