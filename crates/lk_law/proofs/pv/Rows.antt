use Rattle.std.proofs.Common.{◌≡◌, ◌≢◌, Option, Some, None, Bool, true, false, ◌⊎◌, inl, inr, arith}
use Rattle.std.proofs.Common.{ap, refl, sym, ◌∙◌, not}
use Rattle.lk_law.proofs.Names.{Locked, Slow, NodeName, Waiter, State, Halted, Hashed, Running}
use Rattle.lk_law.proofs.Names.{Post, PostsAgree, fits, fronts, not_hashed, raw, Checks, Clears}
use Rattle.lk_law.proofs.Names.{Dozes, Marks, Naps, Peers, Rises, Signs, Sleeps, Stirs, Stopped}
use Rattle.lk_law.proofs.Names.{Stops, Tries, Moves}
use Rattle.lk_law.proofs.{common.Cases.waiter_cases, pv.Met.Met, pv.Turn.pv_step}
use Rattle.lk_law.specs.Pv.Post.{Spins}

stop-raw : (s : State) (f : Bool) → fits Stops f s ≡ true → raw Stops s ≡ true
stop-raw s f h = grind (arith, h)

module _ {locked : Locked} {entry : Option NodeName} {front : Option Waiter}
    {post : Waiter → Post} {state : Waiter → State} {own : Waiter → NodeName}
    {owed : Waiter → Type 0} {w : Waiter} (met : Met locked entry front post state own owed) where
  open met use {posts as ok, leads}

  fit-first : (p : Post) (s : State) → post w ≡ p → state w ≡ s → front ≡ Some w
      → fits p true s ≡ true
  fit-first p s m e f = let z = ok.fit w true (λ e. cc e) (λ e. f) in rw (m, e) at z

  fit-rest : (p : Post) (s : State) → post w ≡ p → state w ≡ s → (front ≡ Some w → ⊥)
      → fits p false s ≡ true
  fit-rest p s m e f = let z = ok.fit w false (λ e. f) (λ e. cc e) in rw (m, e) at z

  fit-any : (p : Post) (s : State) → post w ≡ p → state w ≡ s → (f : Bool)
      → (f ≡ false → front ≢ Some w) → (f ≡ true → front ≡ Some w) → fits p f s ≡ true
  fit-any p s m e f a b = let z = ok.fit w f a b in rw (m, e) at z

  mine : (p : Post) → post w ≡ p → fronts p ≡ true → front ≡ Some w
  mine p m h = leads w (rw m h)

  -- whether it leads can be decided
  any-fit : (p : Post) (s : State) → post w ≡ p → state w ≡ s → (f : Bool) × (fits p f s ≡ true)
  any-fit p s m e = elim (lead-cases front) [
    | inl f ↦ (true, fit-first p s m e f)
    | inr n ↦ (false, fit-rest p s m e n)
  ]
    where
      lead-cases : (o : Option Waiter) → (o ≡ Some w) ⊎ (o ≡ Some w → ⊥)
      lead-cases None = inr (λ e. cc e)
      lead-cases (Some u) =
          elim (waiter_cases u w) [ inl e ↦ inl (ap (λ z. Some z) e) | inr n ↦ inr (λ e. n (cc e)) ]

module _ {locked : Locked} {entry : Option NodeName} {front : Option Waiter}
    {post post' : Waiter → Post} {state state' : Waiter → State} {own : Waiter → NodeName}
    {owed : Waiter → Type 0} {w : Waiter} (met : Met locked entry front post state own owed) where
  open met use {posts as ok, leads}

  -- W1: the flag is set
  pub w1_rise : (s : State) → Moves post post' w Spins Rises → Moves state state' w s s
      → front ≡ Some w → PostsAgree locked entry front post' state' own owed
  w1_rise s moves puts fr =
      pv_step met {owed' = owed} Spins Rises s s moves puts
      (refl, refl, refl, refl, refl, refl, refl, refl)
      (λ r. r) (λ f a b. let z = fit-first met Spins s moves.was puts.was fr in grind (arith, z))
      (λ u f c d. cc d) (λ f e. cc e) (λ f e. cc e) (λ f e. cc e) (λ z n sl o. o) (λ e. cc e)
      (λ e. cc e)

  -- W1: the flag is unset
  pub w1_look : (s : State) → Moves post post' w Spins Peers → Moves state state' w s s
      → front ≢ Some w → PostsAgree locked entry front post' state' own owed
  w1_look s moves puts nf =
      pv_step met {owed' = owed} Spins Peers s s moves puts
      (refl, refl, refl, refl, refl, refl, refl, refl)
      (λ r. r) (λ f a b. let z = fit-rest met Spins s moves.was puts.was nf in grind (arith, z))
      (λ u f c d. cc d) (λ f e. cc e) (λ f e. cc e) (λ f e. cc e) (λ z n sl o. o) (λ e. cc e)
      (λ e. cc e)

  -- W2: the one before it runs
  pub w2_again : (s : State) → Moves post post' w Peers Spins → Moves state state' w s s
      → PostsAgree locked entry front post' state' own owed
  w2_again s moves puts =
      pv_step met {owed' = owed} Peers Spins s s moves puts
      (refl, refl, refl, refl, refl, refl, refl, refl)
      (λ r. r) (λ f a b. let z = fit-any met Peers s moves.was puts.was f a b in grind (arith, z))
      (λ u f c d. cc d) (λ f e. cc e) (λ f e. cc e) (λ f e. cc e) (λ z n sl o. o) (λ e. cc e)
      (λ e. cc e)

  -- W2: it spun enough
  pub w2_stop : (s : State) → Moves post post' w Peers Stops → Moves state state' w s s
      → PostsAgree locked entry front post' state' own owed
  w2_stop s moves puts =
      pv_step met {owed' = owed} Peers Stops s s moves puts
      (refl, refl, refl, refl, refl, refl, refl, refl)
      (λ r. r) (λ f a b. let z = fit-any met Peers s moves.was puts.was f a b in grind (arith, z))
      (λ u f c d. cc d) (λ f e. cc e) (λ f e. cc e) (λ f e. cc e) (λ z n sl o. o) (λ e. cc e)
      (λ e. cc e)

  -- W3: it says that it halts
  pub w3_halted : (s : State) → Moves post post' w Stops Stopped → Moves state state' w s Halted
      → PostsAgree locked entry front post' state' own owed
  w3_halted s moves puts =
      pv_step met {owed' = owed} Stops Stopped s Halted moves puts
      (refl, refl, refl, refl, refl, refl, refl, refl)
      (λ r. let z = any-fit met Stops s moves.was puts.was in stop-raw s z.0 z.1) (λ f a b. refl)
      (λ u f c d. cc d) (λ f e. cc e) (λ f e. cc e) (λ f e. cc e) (λ z n sl o. o) (λ e. cc e)
      (λ e. cc e)

  -- W4: the flag is unset
  pub w4_doze : (s : State) → Moves post post' w Stopped Dozes → Moves state state' w s s
      → front ≢ Some w → PostsAgree locked entry front post' state' own owed
  w4_doze s moves puts nf =
      pv_step met {owed' = owed} Stopped Dozes s s moves puts
      (refl, refl, refl, refl, refl, refl, refl, refl)
      (λ r. r) (λ f a b. let z = fit-any met Stopped s moves.was puts.was f a b in grind (arith, z))
      (λ u f c d. absurd (nf f)) (λ f e h. absurd (nf f)) (λ f e. cc e) (λ f e. cc e)
      (λ z n sl o. o) (λ e. cc e) (λ e. cc e)

  -- W4: the flag is set
  pub w4_stir : (s : State) → Moves post post' w Stopped Stirs → Moves state state' w s s
      → PostsAgree locked entry front post' state' own owed
  w4_stir s moves puts =
      pv_step met {owed' = owed} Stopped Stirs s s moves puts
      (refl, refl, refl, refl, refl, refl, refl, refl)
      (λ r. r) (λ f a b. let z = fit-any met Stopped s moves.was puts.was f a b in grind (arith, z))
      (λ u f c d. cc d) (λ f e. cc e) (λ f e. cc e) (λ f e. cc e) (λ z n sl o. o) (λ e. cc e)
      (λ e. cc e)

  -- W5: the state is halted
  pub w5_sleep : (s : State) → Moves post post' w Dozes Sleeps → Moves state state' w s s
      → s ≡ Halted → PostsAgree locked entry front post' state' own owed
  w5_sleep s moves puts ha =
      pv_step met {owed' = owed} Dozes Sleeps s s moves puts
      (refl, refl, refl, refl, refl, refl, refl, refl)
      (λ r. r) (λ f a b. let z = fit-any met Dozes s moves.was puts.was f a b in grind (arith, z))
      (λ u f c d. ha) (λ f e. cc e)
      (λ f e. let d = ok.dozed w f moves.was (puts.was ∙ ha) in inr (inl (d.0, d.1)))
      (λ f e. cc e) (λ z n sl o. o) (λ e o. o) (λ e. cc e)

  -- W5: it is not
  pub w5_stir : (s : State) → Moves post post' w Dozes Stirs → Moves state state' w s s
      → PostsAgree locked entry front post' state' own owed
  w5_stir s moves puts =
      pv_step met {owed' = owed} Dozes Stirs s s moves puts
      (refl, refl, refl, refl, refl, refl, refl, refl)
      (λ r. r) (λ f a b. let z = fit-any met Dozes s moves.was puts.was f a b in grind (arith, z))
      (λ u f c d. cc d) (λ f e. cc e) (λ f e. cc e) (λ f e. cc e) (λ z n sl o. o) (λ e. cc e)
      (λ e. cc e)

  -- W6: the halt ends
  pub w6_wake : (s : State) → Moves post post' w Sleeps Stirs → Moves state state' w s s
      → PostsAgree locked entry front post' state' own owed
  w6_wake s moves puts =
      pv_step met {owed' = owed} Sleeps Stirs s s moves puts
      (refl, refl, refl, refl, refl, refl, refl, refl)
      (λ r. r) (λ f a b. let z = fit-any met Sleeps s moves.was puts.was f a b in grind (arith, z))
      (λ u f c d. cc d) (λ f e. cc e) (λ f e. cc e) (λ f e. cc e) (λ z n sl o. o) (λ e. cc e)
      (λ e. cc e)

  -- W7: it runs again, unless it was hashed
  pub w7_spin : (t : State) → (s : State) → Moves post post' w Stirs Spins
      → Moves state state' w s t → (s ≡ Halted) × (t ≡ Running) ⊎ (s ≢ Halted) × (t ≡ s)
      → PostsAgree locked entry front post' state' own owed
  w7_spin t s moves puts way =
      pv_step met {owed' = owed} Stirs Spins s t moves puts
      (refl, refl, refl, refl, refl, refl, refl, refl)
      (λ r. grind (arith, way, r))
      (λ f a b. let z = fit-any met Stirs s moves.was puts.was f a b in grind (arith, z, way))
      (λ u f c d. cc d) (λ f e. cc e) (λ f e. cc e) (λ f e. cc e) (λ z n sl o. o) (λ e. cc e)
      (λ e. cc e)

  -- E1: it learns whether it is hashed
  pub e1_rise : (h : Bool) → (s : State) → Moves post post' w Rises (Clears h)
      → Moves state state' w s s → not h ≡ not_hashed s
      → PostsAgree locked entry front post' state' own owed
  e1_rise h s moves puts is =
      pv_step met {owed' = owed} Rises (Clears h) s s moves puts
      (refl, refl, refl, refl, refl, refl, refl, refl)
      (λ r. sym is ∙ r)
      (λ f a b. let z = fit-any met Rises s moves.was puts.was f a b in grind (arith, z))
      (λ u f c d. cc d) (λ f e. cc e) (λ f e. cc e) (λ f e. cc e) (λ z n sl o. o) (λ e. cc e)
      (λ e. cc e)

  -- E2: it says that it runs
  pub e2_clear : (h : Bool) → (s : State) → Moves post post' w (Clears h) (Tries h)
      → Moves state state' w s Running → PostsAgree locked entry front post' state' own owed
  e2_clear h s moves puts =
      pv_step met {owed' = owed} (Clears h) (Tries h) s Running moves puts
      (refl, refl, refl, refl, refl, refl, refl, refl)
      (λ r. r) (λ f a b. refl) (λ u f c d. cc d) (λ f e. cc e) (λ f e. cc e) (λ f e. cc e)
      (λ z n sl o. o) (λ e. cc e) (λ e. cc e)

  -- E5: it is hashed
  pub e5_mark : (s : State) → Moves post post' w (Tries true) Marks → Moves state state' w s s
      → PostsAgree locked entry front post' state' own owed
  e5_mark s moves puts =
      pv_step met {owed' = owed} (Tries true) Marks s s moves puts
      (refl, refl, refl, refl, refl, refl, refl, refl)
      (λ r. cc r) (λ f a b. let z = fit-any met (Tries true) s moves.was puts.was f a b in
      grind (arith, z)) (λ u f c d. cc d) (λ f e. cc e) (λ f e. cc e) (λ f e. cc e)
      (λ z n sl o. o) (λ e. cc e) (λ e. cc e)

  -- E5: it is not
  pub e5_sign : (s : State) → Moves post post' w (Tries false) Signs → Moves state state' w s s
      → PostsAgree locked entry front post' state' own owed
  e5_sign s moves puts =
      pv_step met {owed' = owed} (Tries false) Signs s s moves puts
      (refl, refl, refl, refl, refl, refl, refl, refl)
      (λ r. refl) (λ f a b. let z = fit-any met (Tries false) s moves.was puts.was f a b in
      grind (arith, z)) (λ u f c d. cc d) (λ f e. cc e) (λ f e. cc e) (λ f e. cc e)
      (λ z n sl o. o) (λ e. cc e) (λ e. cc e)

  -- E10: it says that it is hashed
  pub e10_mark : (s : State) → Moves post post' w Marks Checks → Moves state state' w s Hashed
      → PostsAgree locked entry front post' state' own owed
  e10_mark s moves puts =
      pv_step met {owed' = owed} Marks Checks s Hashed moves puts
      (refl, refl, refl, refl, refl, refl, refl, refl)
      (λ r. cc r) (λ f a b. refl) (λ u f c d. cc d) (λ f e. cc e) (λ f e. cc e) (λ f e. cc e)
      (λ z n sl o. o) (λ e. cc e) (λ e. cc e)

  -- E11: the lock is slow
  pub e11_nap : (s : State) → Moves post post' w Checks Naps → Moves state state' w s s
      → locked ≡ Slow → PostsAgree locked entry front post' state' own owed
  e11_nap s moves puts sl =
      pv_step met {owed' = owed} Checks Naps s s moves puts
      (refl, refl, refl, refl, refl, refl, refl, refl)
      (λ r. cc r) (λ f a b.
      let z = fit-any met Checks s moves.was puts.was f a b in grind (arith, z))
      (λ u f c d. cc d) (λ f e. cc e) (λ f e. cc e) (λ f e. inl sl) (λ z n sl o. o) (λ e. cc e)
      (λ e o. o)

  -- E11: it is not
  pub e11_back : (s : State) → Moves post post' w Checks (Clears true) → Moves state state' w s s
      → PostsAgree locked entry front post' state' own owed
  e11_back s moves puts =
      pv_step met {owed' = owed} Checks (Clears true) s s moves puts
      (refl, refl, refl, refl, refl, refl, refl, refl)
      (λ r. cc r) (λ f a b.
      let z = fit-any met Checks s moves.was puts.was f a b in grind (arith, z))
      (λ u f c d. cc d) (λ f e. cc e) (λ f e. cc e) (λ f e. cc e) (λ z n sl o. o) (λ e. cc e)
      (λ e. cc e)

  -- E12: the halt ends
  pub e12_wake : (s : State) → Moves post post' w Naps (Clears true) → Moves state state' w s s
      → PostsAgree locked entry front post' state' own owed
  e12_wake s moves puts =
      pv_step met {owed' = owed} Naps (Clears true) s s moves puts
      (refl, refl, refl, refl, refl, refl, refl, refl)
      (λ r. cc r) (λ f a b. let z = fit-any met Naps s moves.was puts.was f a b in grind (arith, z))
      (λ u f c d. cc d) (λ f e. cc e) (λ f e. cc e) (λ f e. cc e) (λ z n sl o. o) (λ e. cc e)
      (λ e. cc e)
