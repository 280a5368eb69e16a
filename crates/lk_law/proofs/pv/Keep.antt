-- The posts of a lock where nothing changes that they speak of; and what a post says of the phase.
use Rattle.std.proofs.Common.{◌≡◌, Option, Some, Bool, true, false, ◌⊎◌, inl, inr, arith, ap, refl}
use Rattle.std.proofs.Common.{sym, ◌∙◌}
use Rattle.lk_law.proofs.Names.{cases_Bool, Locked, NodeName, Waiter, Flag, State, Phase, has_lock}
use Rattle.lk_law.proofs.Names.{has_node, leads, Hands, Holds, Leads, Links, Presses, Releases}
use Rattle.lk_law.proofs.Names.{Waits, Post, PostsAgree, agrees, at_halt, fits, fronts, post_full}
use Rattle.lk_law.proofs.Names.{post_holds, raw, Calls, Checks, Clears, Dozes, Drops, Erases, Finds}
use Rattle.lk_law.proofs.Names.{Has, Joins, Kicks, Marks, Naps, Off, Peers, Rises, Signing, Signs}
use Rattle.lk_law.proofs.Names.{Sleeps, Slowing, Slows, Stirs, Stopped, Stops, Tries, Wins}
use Rattle.lk_law.specs.Pv.Post.{Spins}

-- the post speaks of the own node
abbrev pub noded_post : Post → Bool
noded_post Off = false
noded_post (Calls y) = false
noded_post (Slowing y) = false
noded_post (Signing y) = false
noded_post Finds = false
noded_post (Drops t) = false
noded_post (Kicks t) = false
noded_post _ = true

fits-free : (p : Post) (f : Bool) (s : State) → noded_post p ≡ false → fits p f s ≡ true
fits-free p f s h = grind arith

full-noded : (p : Post) → post_full p ≡ true → noded_post p ≡ true
full-noded p h = grind arith

-- nothing changes that the posts speak of
pub pv_keep : (locked : Locked) (entry : Option NodeName) (front : Option Waiter)
    (post : Waiter → Post) (state state' : Waiter → State) (own own' : Waiter → NodeName)
    (owed owed' : Waiter → Type 0)
    → PostsAgree locked entry front post state own owed
    → ((u : Waiter) → noded_post (post u) ≡ true → (state' u ≡ state u) × (own' u ≡ own u))
    → ((z : Waiter) → front ≡ Some z → (state' z ≡ state z) × (own' z ≡ own z))
    → ((z : Waiter) → at_halt (post z) ≡ true → owed z → owed' z)
    → PostsAgree locked entry front post state' own' owed'
pv_keep locked entry front post state state' own own' owed owed' ok same lead more =
    record {
      fit = λ u f a b. elim (cases_Bool (noded_post (post u))) [
        | inl t ↦ rw (same u t).0 (ok.fit u f a b)
        | inr n ↦ fits-free (post u) f (state' u) n
      ];
      bare_entry = ok.bare_entry;
      bare_slow = ok.bare_slow;
      bare_some = ok.bare_some;
      full_entry =
          λ u h. ok.full_entry u h ∙ ap (λ n. Some n) (sym (same u (full-noded (post u) h)).1);
      full_slow = ok.full_slow;
      full_some = ok.full_some;
      entered = λ n h. let q = ok.entered n h in (q.0, q.1, (lead q.0 q.1).1 ∙ q.2);
      named = λ u n h. let q = ok.named u n h in (q.0, q.1, (lead q.0 q.1).1 ∙ q.2);
      raw_slow = λ z f h. ok.raw_slow z f (ap (raw (post z)) (sym (lead z f).0) ∙ h);
      raw_free = λ z u f h. ok.raw_free z u f (ap (raw (post z)) (sym (lead z f).0) ∙ h);
      slow = ok.slow;
      one = ok.one;
      called = λ z u f c d. (lead z f).0 ∙ ok.called z u f c d;
      dozed = λ z f d h. ok.dozed z f d (sym (lead z f).0 ∙ h);
      slept = λ z f d. elim (ok.slept z f d) [
        | inl a ↦ inl a
        | inr b ↦ elim
            b [
              | inl c ↦ inr (inl c)
              | inr e ↦ elim
                  e [
                    | inl g ↦ inr (inr (inl g))
                    | inr o ↦ inr (inr (inr (more z (ap at_halt d) o)))
                  ]
            ]
      ];
      napped = λ z f d. elim (ok.napped z f d) [
        | inl a ↦ inl a
        | inr e ↦ elim e [ inl g ↦ inr (inl g) | inr o ↦ inr (inr (more z (ap at_halt d) o)) ]
      ];
    }

-- what the posts mean for the lock
pub agrees-noded : (p : Post) (r : Phase) → agrees p r ≡ true → noded_post p ≡ true
    → has_node r ≡ true
agrees-noded Joins (Links n) h k = refl
agrees-noded Spins Waits h k = refl
agrees-noded Peers Waits h k = refl
agrees-noded Stops Waits h k = refl
agrees-noded Stopped Waits h k = refl
agrees-noded Dozes Waits h k = refl
agrees-noded Sleeps Waits h k = refl
agrees-noded Stirs Waits h k = refl
agrees-noded Rises Leads h k = refl
agrees-noded (Clears g) Leads h k = refl
agrees-noded (Tries g) Leads h k = refl
agrees-noded (Tries g) Presses h k = refl
agrees-noded Signs Leads h k = refl
agrees-noded Slows Leads h k = refl
agrees-noded Marks Leads h k = refl
agrees-noded Checks Leads h k = refl
agrees-noded Naps Leads h k = refl
agrees-noded Wins Holds h k = refl
agrees-noded Erases Holds h k = refl
agrees-noded Has Holds h k = refl
agrees-noded Has (Hands n) h k = refl
agrees-noded p r h k = grind (arith, h, k)

pub agrees-holds : (p : Post) (r : Phase) → agrees p r ≡ true → post_holds p ≡ true
    → (has_lock r false ≡ true) ⊎ (r ≡ Releases)
agrees-holds p r h k = grind (arith, h, k)

pub agrees-fronts : (p : Post) (r : Phase) (f : Flag) → agrees p r ≡ true → fronts p ≡ true
    → leads r f ≡ true
agrees-fronts p r f h k = grind (arith, h, k)
