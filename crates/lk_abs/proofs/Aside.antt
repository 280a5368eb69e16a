-- Whom a lawful history moves aside: in the second format only tasks.
use Rattle.std.proofs.Common.{◌≡◌, ◌≤◌, ℕ, zero, suc, true, false, inl, inr, refl, List, [], ◌∷◌, sym, subst, drop, take, arith}
use Rattle.std.specs.Prelude.{not, nat_lt, ◌||◌}
use Rattle.std.specs.List.{All}
use Rattle.std.proofs.lemmas.Bool.{cases_Bool, ltb-false}
use Rattle.std.proofs.lemmas.List.Elements.{All-nil, All-cons, All-append}
use Rattle.lk_names.specs.History.{LockHistory, changed, history_of}
use Rattle.lk_names.specs.Lawful.{Rules, InOrder, IsOrdered, IsLawful, is_far, is_local, movable, lawful_moves, same_socket}
use Rattle.lk_names.specs.declared.names.Format.{Format}
use Rattle.lk_names.specs.declared.names.Format.TheVariants.{One, Two}
use Rattle.lk_names.specs.declared.names.Mode.{Mode}
use Rattle.lk_names.specs.declared.names.Mode.TheVariants.{Virt, Native, Cna, Pv}
use Rattle.lk_names.specs.declared.names.Waiter.{Waiter}
use Rattle.lk_names.specs.declared.names.LockName.{LockName}
use Rattle.lk_names.specs.declared.events.Event.{Event}
use Rattle.lk_names.specs.declared.events.What.{What}
use Rattle.lk_names.specs.declared.events.What.TheVariants.{Take, Pass, Flush, Promote}
use Rattle.lk_abs.proofs.Clauses.{second-taken}
use Rattle.lk_names.proofs.Moments.{OfEachEvent-front, OfEachEvent-now, by_events}
use Rattle.lk_abs.proofs.OneMore.{told-keeps, Ordered}

-- the waiter is a task
IsTask : Waiter → Type 0
IsTask u = u.ctx ≡ 0

TasksAside : LockHistory → Type 0
TasksAside h = All IsTask h.second

-- who is far is a task
far_task : (rules : Rules) (w u : Waiter) → rules.format ≡ Two → is_far rules w u ≡ true → IsTask u
unfolding IsTask
far_task rules w u two far = go rules.format two far
  where
    go : (format : Format) → format ≡ Two → not (is_local format rules.sockets w.cpu u) ≡ true → u.ctx ≡ 0
    go One e h = cc e
    go Two e h = by_ctx u.ctx h
      where
        by_ctx : (c : ℕ) → not (nat_lt 0 c || same_socket rules.sockets w.cpu u.cpu) ≡ true → c ≡ 0
        by_ctx c h =
            elim (cases_Bool (nat_lt 0 c)) [
              | inl some ↦ absurd (let no : false ≡ true = rw some at h in cc no)
              | inr none ↦ let le = ltb-false 0 c none in omega (arith, le)
            ]

-- the first of those that may be moved are far
take_far : (rules : Rules) (w : Waiter) (ws : List Waiter) (k : ℕ) → rules.format ≡ Two → k ≤ movable (is_far rules w) ws
    → All IsTask (take k ws)
take_far rules w ws zero two few = All-nil IsTask
take_far rules w [] (suc k) two few = All-nil IsTask
take_far rules w (u ∷ []) (suc k) two few = absurd (omega (arith, few))
take_far rules w (u ∷ v ∷ ws) (suc k) two few =
    elim (cases_Bool (is_far rules w u)) [
      | inl far ↦
          (let more : suc k ≤ suc (movable (is_far rules w) (v ∷ ws)) = rw far at few in
          All-cons IsTask u (take k (v ∷ ws)) (far_task rules w u two far) (take_far rules w (v ∷ ws) k two (omega (arith, more))))
      | inr near ↦ absurd (let none : suc k ≤ 0 = rw near at few in omega (arith, none))
    ]

moved_tasks : (rules : Rules) (main : List Waiter) (k : ℕ) → rules.format ≡ Two → k ≤ lawful_moves rules main → All IsTask (take k (drop 1 main))
moved_tasks rules main k two few = by_mode rules.mode refl main few
  where
    none : (ws : List Waiter) (n : ℕ) → n ≤ 0 → All IsTask (take n ws)
    none ws zero le = All-nil IsTask
    none ws (suc n) le = absurd (omega (arith, le))

    by_mode : (mode : Mode) → rules.mode ≡ mode → (ws : List Waiter) → k ≤ lawful_moves (record rules { mode = mode }) ws → All IsTask (take k (drop 1 ws))
    by_mode Cna e [] few = none [] k few
    by_mode Cna e (w ∷ ws) few = take_far rules w ws k two few
    by_mode Virt e ws few = none (drop 1 ws) k few
    by_mode Native e ws few = none (drop 1 ws) k few
    by_mode Pv e ws few = none (drop 1 ws) k few

tasks-changed : (rules : Rules) (h : LockHistory) (w : Waiter) (what : What) → rules.format ≡ Two → InOrder rules h w what → TasksAside h → TasksAside (changed h w what)
unfolding TasksAside
tasks-changed rules h w (Take l how) two order tasks = subst (λ (us : List Waiter). All IsTask us) (sym (second-taken h w how)) tasks
tasks-changed rules h w (Pass l to k) two order tasks = All-append IsTask h.second (take k (drop 1 h.main)) tasks (moved_tasks rules h.main k two order.2)
tasks-changed rules h w (Flush l) two order tasks = All-nil IsTask
tasks-changed rules h w (Promote l) two order tasks = All-nil IsTask
tasks-changed rules h w _ two order tasks = tasks

pub aside_are_tasks : (rules : Rules) (es : List Event) (l : LockName) → IsLawful rules es → rules.format ≡ Two → All (λ (u : Waiter). u.ctx ≡ 0) (history_of l es).second
unfolding TasksAside IsTask Ordered
aside_are_tasks rules es l ok two =
    by_events (λ ts. IsOrdered rules ts → TasksAside (history_of l ts)) (λ none. All-nil IsTask)
    (λ ts e before more. told-keeps l ts e TasksAside (before (OfEachEvent-front (Ordered rules) ts e more)) (λ on. tasks-changed rules (history_of l ts) e.by e.what two (OfEachEvent-now (Ordered rules) ts e more l on) (before (OfEachEvent-front (Ordered rules) ts e more))))
    es ok.ordered
