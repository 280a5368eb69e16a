-- Phases that have touched nothing have no part in any agreement.
use Rattle.std.proofs.Common.{◌≡◌, ◌≢◌, ℕ, zero, suc, Some, None, Bool, true, false, arith, ap, ◌<◌}
use Rattle.std.proofs.Common.{◌+◌, refl, ◌∙◌, length, get_or, replicate}
use Rattle.lk_core.proofs.Names.{NodeName, Mode, Waiter, no_cpu, first_place, way_before, Frame}
use Rattle.lk_core.proofs.Names.{State, Setup, Verb, RUnlock, Unlock, WUnlock, Phase, has_node}
use Rattle.lk_core.proofs.Names.{queues, Idle, RwPhase, is_inner, Asks, Away}
use Rattle.lk_word.specs.declared.spin_word.Locked.TheVariants.{Free}
use Rattle.lk_rows.specs.Run.{rest_cpu, rest_cpus}
use Rattle.lk_law.specs.{Families.is_slow, Phase.{has_lock, pends, claims, watches}}
use Rattle.lk_law.specs.{Phase.Phase.Seeks, Places.{post_if, phase_at}}
use Rattle.lk_law.specs.{Pv.{PostsAgree, agrees as suits}, Pv.Post.Off, Registers.is_quiet_row}
use Rattle.lk_law.specs.{RwPhase.is_counted, RwPhase.RwPhase.{Announces, Unreads, Unwrites}}
use Rattle.lk_law.specs.SoundWorld.{rw_phase_at}
use Rattle.lk_core.proofs.Kicks.{owed_at}

pub get_or-same : {A : Type 0} (n i : ℕ) (x : A) → get_or (replicate n x) i x ≡ x
get_or-same zero i x = refl
get_or-same (suc n) zero x = refl
get_or-same (suc n) (suc i) x = get_or-same n i x

pub length-rest_cpus : (setup : Setup) (q n : ℕ) → length (rest_cpus setup q n) ≡ n
length-rest_cpus setup q zero = refl
length-rest_cpus setup q (suc n) = ap suc (length-rest_cpus setup (suc q) n)

pub rest_cpus-at : (setup : Setup) (q n i : ℕ) → i < n
    → get_or (rest_cpus setup q n) i no_cpu ≡ rest_cpu setup (q + i)
rest_cpus-at setup q zero i h = absurd (omega arith)
rest_cpus-at setup q (suc n) zero h = ap (rest_cpu setup) (omega arith)
rest_cpus-at setup q (suc n) (suc i) h =
    rest_cpus-at setup (suc q) n i (omega arith) ∙ ap (rest_cpu setup) (omega arith)

-- the phase has touched nothing of the lock
abbrev pub untouched : Phase → Bool
untouched Idle = true
untouched Seeks = true
untouched _ = false

-- a phase that has touched nothing has no part in any agreement
pub record HasNoPart (r : Phase) : Type 0 where
  pub has : has_lock r false ≡ false
  pub queues : queues r ≡ false
  pub pends : pends r ≡ false
  pub claims : claims r ≡ false
  pub watches : watches r ≡ false
  pub noded : has_node r ≡ false

pub quiet : (r : Phase) → untouched r ≡ true → HasNoPart r
quiet Idle h =
    record { has = refl; queues = refl; pends = refl; claims = refl; watches = refl; noded = refl }
quiet Seeks h =
    record { has = refl; queues = refl; pends = refl; claims = refl; watches = refl; noded = refl }
quiet _ h = cc

-- the phase has touched nothing of a reader-writer lock
abbrev pub is_calm : RwPhase → Bool
is_calm Away = true
is_calm Asks = true
is_calm _ = false

-- such a phase has no part in any agreement either
pub record IsCalm (r : RwPhase) : Type 0 where
  pub counted : is_counted r None ≡ false
  pub inner : is_inner r ≡ false
  pub silent : r ≢ Announces
  pub unread : r ≢ Unreads
  pub unwrite : r ≢ Unwrites

pub calm : (r : RwPhase) → is_calm r ≡ true → IsCalm r
calm Away h = record {
  counted = refl;
  inner = refl;
  silent = λ e. grind arith;
  unread = λ e. grind arith;
  unwrite = λ e. grind arith;
}
calm Asks h = record {
  counted = refl;
  inner = refl;
  silent = λ e. grind arith;
  unread = λ e. grind arith;
  unwrite = λ e. grind arith;
}
calm _ h = cc

-- where nothing is held the first row of an operation touches nothing
pub first_untouched : (mode : Mode) (v : Verb) (t : Bool) (a b : NodeName) (f : Frame)
    → way_before v ≡ None
    → (untouched (phase_at (first_place mode v) t a b) ≡ true)
    × (is_slow (Some (first_place mode v)) ≡ false) × (is_quiet_row (first_place mode v) ≡ true)
    × (is_calm (rw_phase_at (first_place mode v) false) ≡ true)
    × (post_if (Some (first_place mode v)) f ≡ Off)
    × (owed_at (Some (first_place mode v)) f ≡ None)
first_untouched mode Unlock q a b f e = cc
first_untouched mode RUnlock q a b f e = cc
first_untouched mode WUnlock q a b f e = cc
first_untouched mode _ q a b f e = (refl, refl, refl, refl, refl, refl)

-- where all are at no post, all agrees
pub calm_posts : (state : Waiter → State) (own : Waiter → NodeName) (owed : Waiter → Type 0)
    → PostsAgree Free None None (λ u. Off) state own owed
calm_posts state own owed =
    record {
      fit = λ u f a b. refl;
      bare_entry = λ u h. cc;
      bare_slow = λ u h. cc;
      bare_some = λ a h. cc;
      full_entry = λ u h. cc;
      full_slow = λ u h. cc;
      full_some = λ n h. cc;
      entered = λ n h. cc;
      named = λ u n h. cc;
      raw_slow = λ w h. cc;
      raw_free = λ w u h. cc;
      slow = λ u h. cc;
      one = λ u h. cc;
      called = λ w u h. cc;
      dozed = λ w h. cc;
      slept = λ w h. cc;
      napped = λ w h. cc;
    }

-- and that it touches nothing suits no post
pub suits_off : (r : Phase) → untouched r ≡ true → suits Off r ≡ true
suits_off Idle h = refl
suits_off Seeks h = refl
suits_off _ h = cc

pub differ : {A : Type 0} (b : Bool) → b ≡ false → b ≡ true → A
differ b e f = absurd (grind (arith, e, f))
