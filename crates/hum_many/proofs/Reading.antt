-- Cases that are read.
use Rattle.std.proofs.Common.{◌≡◌, ℕ, ◌<◌, List, [], ◌∷◌, ◌++◌, length, ap, subst, ◌∙◌, false, true, Bool}
use Rattle.hum_text.specs.declared.calls.Source.{Ghosts as Source}
use Rattle.hum_packets.specs.declared.stop.Stop.{Stop}
use Rattle.hum_packets.specs.declared.stop.Stop.TheVariants.{Broken, Read, Write, Memory}
use Rattle.hum_packets.specs.Lists.{Then, Chain, IsPacket, IsText, Stops, StopsInList}
use Rattle.hum_packets.specs.Streams.{Reading, Took, Lost, further}
use Rattle.hum_packets.specs.Held.{IsFed, LostAhead, Begins}
use Rattle.hum_packets.proofs.Feeding.{kept-is}
use Rattle.hum_packets.proofs.Stepping.{took-then, took-as, lost-then, lost-as, fed-took, fed-lost, chain-more, chain-none}
use Rattle.hum_many.specs.Cases.{Named, IsScore, StopsInCase, TookCase, LostCase, EndsHere}
use Rattle.hum_many.proofs.Holding.{score-read, stops-next, stops-score}

module _ {R : Type 0} (source : Source R) where
  pub score-more : {a b c d : Reading R} (scores : List Named) (name text : List ℕ) → Took source (Chain IsScore scores) a b
      → Took source (IsPacket name) b c → Took source (IsText text) c d
      → Took source (Chain IsScore (scores ++ record { name = name; text = text } ∷ [])) a d
  score-more scores name text x y z =
      let it : Named = record { name = name; text = text } in
      took-as source (λ all rest is. chain-more IsScore scores it all is.1.0 rest is.1.1 (score-read name text is.1.0 rest (is.0, is.1.2, is.2)))
      (took-then source (took-then source x y) z)

  pub next-lost : {a b : Reading R} (scores : List Named) (stop : Stop) → Took source (Chain IsScore scores) a b → Lost source Stops b stop
      → Lost source StopsInCase a stop
  next-lost {a} {b} scores stop x lost =
      lost-as source (Then (Chain IsScore scores) Stops) StopsInCase a stop (stops-next scores)
      (lost-then source (Chain IsScore scores) Stops a b stop x lost)

  pub score-lost : {a b c : Reading R} (scores : List Named) (name : List ℕ) (stop : Stop) → Took source (Chain IsScore scores) a b
      → Took source (IsPacket name) b c → Lost source StopsInList c stop → Lost source StopsInCase a stop
  score-lost {a} {b} {c} scores name stop x y lost =
      lost-as source (Then (Then (Chain IsScore scores) (IsPacket name)) StopsInList) StopsInCase a stop (stops-score scores name)
      (lost-then source (Then (Chain IsScore scores) (IsPacket name)) StopsInList a c stop (took-then source x y) lost)

  pub ahead-lost : (a : Reading R) (stop : Stop) → LostAhead source a stop → LostCase source a stop
  ahead-lost a (Broken at) lost = absurd lost
  ahead-lost a Read lost = record {
    part = lost.part;
    behind = lost.behind;
    is = lost.is;
    steps = stops-next [] lost.part lost.behind (lost.part, chain-none IsScore lost.part, lost.steps);
    failed = lost.failed;
  }
  ahead-lost a Write lost = tt
  ahead-lost a Memory lost = tt

  pub case-lost : (a b : Reading R) (stop : Stop) → IsFed source a b → 0 < length b.pending → Lost source StopsInCase b stop
      → LostCase source a stop
  case-lost a b (Broken at) fed some lost = record {
    before = lost.before;
    behind = lost.behind;
    is = kept-is _ _ _ fed.kept lost.is;
    steps = lost.steps;
    counts = lost.counts ∙ ap (λ n. further n (length lost.before)) fed.passed;
    some = lost.ahead some;
  }
  case-lost a b Read fed some lost = fed-lost source StopsInCase a b Read fed lost
  case-lost a b Write fed some lost = tt
  case-lost a b Memory fed some lost = tt

  pub case-took : {a b c : Reading R} {held : List Named} {large : Bool} → IsFed source a b → TookCase source b c held large
      → TookCase source a c held large
  case-took fed t = record { case = t.case; took = fed-took source fed t.took; large = t.large; all = t.all }

  pub ends-here : (a b : Reading R) (end : Bool) → IsFed source a b → end ≡ true → Begins source end b → EndsHere source a
  ends-here a b end fed is begins = kept-is _ _ _ fed.kept (subst (λ x. Begins source x b) is begins)

  pub some-here : (b : Reading R) (end : Bool) → end ≡ false → Begins source end b → 0 < length b.pending
  some-here b end is begins = subst (λ x. Begins source x b) is begins
