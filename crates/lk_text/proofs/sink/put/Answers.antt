use Rattle.std.proofs.KnownBytes.{Appends-kept}
use Rattle.std.proofs.Common.{arith, ap, ℕ, List, length, take, drop, ◌-◌, ◌≡◌}
use Rattle.std.proofs.lemmas.List.{length-take, length-drop}
use Rattle.lk_text.proofs.Grown.{Appends_more, front_of_text, count_fits}
use Rattle.lk_text.proofs.sink.put.Goals as goal

-- the size of what is still to be put
rest_size : (xs : List ℕ) (i : ℕ) → length (take (length xs - i) (drop i xs)) ≡ length xs - i
rest_size xs i = omega (arith, length-take (length xs - i) (drop i xs), length-drop i xs)

pub returns-in-Ok-eq0-clause-err : goal.returns-in-Ok-eq0-clause-err
returns-in-Ok-eq0-clause-err g c =
    front_of_text _ _ _ _ (Appends_more _ _ _ _ c.loop-done.done c.in-Ok-eq0.field-0 c.loop-done.invariant.grown c.in-Ok-eq0.ensures.bytes)

pub loop-done-preserved : goal.loop-done-preserved
loop-done-preserved g c = record {
  in_range = count_fits _ _ _ c.loop-done.invariant.in_range c.in-Ok.ensures.bound;
  grown = Appends_more _ _ _ _ c.loop-done.done c.in-Ok.count c.loop-done.invariant.grown c.in-Ok.ensures.bytes;
  untouched = λ none.
      let runs = c.loop-done-test.true in let empty = ap length none in absurd (omega (arith, runs, empty));
  sure = λ within.
      let size = rest_size c.args.bytes.now c.loop-done.done in
      let before = c.loop-done.invariant.sure within in
      let taken = c.in-Ok.ensures.sure (omega (arith, size, c.loop-done-test.true)) (omega (arith, size, before, within)) in
      omega (arith, taken.1, before);
  later = omega (arith, c.in-Ok.ensures.cause.later);
}

pub returns-in-Err-clause-err : goal.returns-in-Err-clause-err
returns-in-Err-clause-err g c = front_of_text _ _ _ _ (Appends-kept _ _ _ _ c.loop-done.invariant.grown c.in-Err.ensures.bytes)
