use Rattle.std.proofs.Common.{◌≡◌, ◌++◌, ◌∷◌, [], List, ℕ, suc, drop, take, replicate, sym, ap, subst, ◌∙◌, append_assoc}
use Rattle.lk_abs.proofs.Steps.{suc_is, drop-step, take-step, drop-rest, replicate-step}
use Rattle.lk_abs.proofs.queues.hand_on.Goals as goal

pub loop-preserved : goal.loop-preserved
loop-preserved c =
    let at = sym c.loop.invariant.main ∙ c.pop_front-aside.ensures.items in
    let i = c.loop.counter in
    let main = c.args.lists.now.main.items in
    record {
      main = subst (λ (n : ℕ). c.pop_front-aside.new.self.items ≡ drop (suc n) main) (suc_is i) (sym (drop-step (suc i) main _ _ at));
      second = subst (λ (n : ℕ). c.push.new.self.items ≡ c.args.lists.now.second.items ++ take n (drop 1 main)) (suc_is i)
          (ap (λ l. l.items) c.push.ensures ∙ ap (λ xs. xs ++ c.pop_front-aside.result ∷ []) c.loop.invariant.second ∙ append_assoc c.args.lists.now.second.items (take i (drop 1 main)) (c.pop_front-aside.result ∷ []) ∙ ap (λ xs. c.args.lists.now.second.items ++ xs) (sym (take-step i (drop 1 main) _ _ (drop-rest i main ∙ at))));
      passes = subst (λ (n : ℕ). c.push-in-loop.new.self.items ≡ c.args.lists.now.passes.items ++ replicate {A = ℕ} n 0) (suc_is i)
          (ap (λ l. l.items) c.push-in-loop.ensures ∙ ap (λ (xs : List ℕ). xs ++ 0 ∷ []) c.loop.invariant.passes ∙ append_assoc c.args.lists.now.passes.items (replicate {A = ℕ} i 0) (0 ∷ []) ∙ ap (λ xs. c.args.lists.now.passes.items ++ xs) (sym (replicate-step i)));
      main_room = c.pop_front-aside.ensures.room ∙ c.loop.invariant.main_room;
      second_room = ap (λ l. l.room) c.push.ensures ∙ c.loop.invariant.second_room;
      passes_room = ap (λ l. l.room) c.push-in-loop.ensures ∙ c.loop.invariant.passes_room;
    }
