-- One renaming after another, and back.
use Rattle.std.proofs.Common.{◌≡◌, ℕ, ◌<◌, ◌+◌, Option, Some, None, List, [], ◌∷◌, map, length}
use Rattle.std.proofs.Common.{get_or, zero, suc, ap, refl, sym, ◌∙◌, subst, arith}
use Rattle.std.proofs.lemmas.List.{ext_get_or}
use Rattle.lk_renaming.proofs.Names.{NodeName, LockName, CpuState, Machine, no_cpu, Flag, Frame}
use Rattle.lk_renaming.proofs.Names.{Node, Setup, renamed, renamed_cpu, renamed_cpus, renamed_flag}
use Rattle.lk_renaming.proofs.Names.{renamed_frame, renamed_link, renamed_lock, renamed_node}
use Rattle.lk_renaming.proofs.Names.{IsAmongAlike, IsRenaming, Renaming}
use Rattle.lk_rows.specs.{Machine.{LockState, cpu_at}, Programs.{program_at, handlers_of}}
use Rattle.lk_renaming.proofs.Cpus.{back_others, cpu-back, cpus-renamed, cpus_each, cpus_long}
use Rattle.lk_renaming.specs.Law.{RenamingsCompose, RenamedTwice, RenamedBack}
use Rattle.lk_renaming.specs.{Renamed.renamed_entry, Renaming.{composed, reversed}}
use Rattle.lk_rows.specs.declared.parts.Flag.TheVariants as flag

-- what each item becomes, all do
each_same : {A B C : Type 0} (g : B → C) (f : A → B) (h : A → C) → ((x : A) → g (f x) ≡ h x) → (xs : List A)
    → map g (map f xs) ≡ map h xs
each_same g f h same [] = refl
each_same g f h same (x ∷ xs) = (λ i. same x i ∷ each_same g f h same xs i)

each_back : {A B : Type 0} (g : B → A) (f : A → B) → ((x : A) → g (f x) ≡ x) → (xs : List A) → map g (map f xs) ≡ xs
each_back g f same [] = refl
each_back g f same (x ∷ xs) = (λ i. same x i ∷ each_back g f same xs i)

-- as many processors that are the same
cpus_same : (r q : Renaming) (m n : Machine)
    → ((k : ℕ) → renamed_cpu r (cpu_at m (r.back k)) ≡ renamed_cpu q (cpu_at n (q.back k)))
    → (from count : ℕ) → renamed_cpus r m from count ≡ renamed_cpus q n from count
cpus_same r q m n same from zero = refl
cpus_same r q m n same from (suc count) = (λ i. same from i ∷ cpus_same r q m n same (suc from) count i)

-- two renamings

module _ (q r : Renaming) where
  link_twice : (o : Option NodeName) → renamed_link q (renamed_link r o) ≡ renamed_link (composed q r) o
  link_twice None = refl
  link_twice (Some n) = refl

  flag_twice : (x : Flag) → renamed_flag q (renamed_flag r x) ≡ renamed_flag (composed q r) x
  flag_twice flag.Unset = refl
  flag_twice flag.Go = refl
  flag_twice (flag.Second n) = refl

  node_twice : (x : Node) → renamed_node q (renamed_node r x) ≡ renamed_node (composed q r) x
  node_twice x = (λ i. record x {
    flag = flag_twice x.flag i;
    next = link_twice x.next i;
    second_tail = link_twice x.second_tail i;
  })

  frame_twice : (f : Frame) → renamed_frame q (renamed_frame r f) ≡ renamed_frame (composed q r) f
  frame_twice f = (λ i. record f {
    me = link_twice f.me i;
    prev = link_twice f.prev i;
    second = link_twice f.second i;
    y = link_twice f.y i;
    a = link_twice f.a i;
    b = link_twice f.b i;
    t = link_twice f.t i;
    target = link_twice f.target i;
  })

  cpu_twice : (c : CpuState) → renamed_cpu q (renamed_cpu r c) ≡ renamed_cpu (composed q r) c
  cpu_twice c = (λ i. record c {
    frames = each_same (λ f. renamed_frame q f) (λ f. renamed_frame r f) (λ f. renamed_frame (composed q r) f) frame_twice c.frames i;
    nodes = each_same (λ x. renamed_node q x) (λ x. renamed_node r x) (λ x. renamed_node (composed q r) x) node_twice c.nodes i;
  })

  lock_twice : (l : LockState) → renamed_lock q (renamed_lock r l) ≡ renamed_lock (composed q r) l
  lock_twice l = (λ i. record l {
    spin = record l.spin { tail = link_twice l.spin.tail i };
    wait = record l.wait { tail = link_twice l.wait.tail i };
  })

  module _ (m : Machine) (is : IsRenaming (length m.cpus) r) where
    pub renamed_twice : renamed q (renamed r m) ≡ renamed (composed q r) m
    renamed_twice =
        let cpus =
        ap (λ n. renamed_cpus q (renamed r m) 0 n) (cpus-renamed r m is)
        ∙ cpus_same q (composed q r) (renamed r m) m
        (λ k. ap (λ c. renamed_cpu q c) (cpu-back r m is (q.back k)) ∙ cpu_twice (cpu_at m (r.back (q.back k))))
        0 (length m.cpus) in
        (λ i. record m {
          locks = each_same (λ l. renamed_lock q l) (λ l. renamed_lock r l) (λ l. renamed_lock (composed q r) l) lock_twice m.locks i;
          cpus = cpus i;
          hash = each_same (λ e. renamed_entry q e) (λ e. renamed_entry r e) (λ e. renamed_entry (composed q r) e) (λ e. refl) m.hash i;
        })

-- a renaming and its way back

module _ (r : Renaming) (n : ℕ) (is : IsRenaming n r) where
  link_back : (o : Option NodeName) → renamed_link (reversed r) (renamed_link r o) ≡ o
  link_back None = refl
  link_back (Some k) = (λ i. Some (record k { cpu = is.undone k.cpu i }))

  flag_back : (x : Flag) → renamed_flag (reversed r) (renamed_flag r x) ≡ x
  flag_back flag.Unset = refl
  flag_back flag.Go = refl
  flag_back (flag.Second k) = (λ i. flag.Second (record k { cpu = is.undone k.cpu i }))

  node_back : (x : Node) → renamed_node (reversed r) (renamed_node r x) ≡ x
  node_back x = (λ i. record x {
    flag = flag_back x.flag i;
    next = link_back x.next i;
    second_tail = link_back x.second_tail i;
  })

  frame_back : (f : Frame) → renamed_frame (reversed r) (renamed_frame r f) ≡ f
  frame_back f = (λ i. record f {
    me = link_back f.me i;
    prev = link_back f.prev i;
    second = link_back f.second i;
    y = link_back f.y i;
    a = link_back f.a i;
    b = link_back f.b i;
    t = link_back f.t i;
    target = link_back f.target i;
  })

  cpu_back : (c : CpuState) → renamed_cpu (reversed r) (renamed_cpu r c) ≡ c
  cpu_back c = (λ i. record c {
    frames = each_back (λ f. renamed_frame (reversed r) f) (λ f. renamed_frame r f) frame_back c.frames i;
    nodes = each_back (λ x. renamed_node (reversed r) x) (λ x. renamed_node r x) node_back c.nodes i;
  })

  lock_back : (l : LockState) → renamed_lock (reversed r) (renamed_lock r l) ≡ l
  lock_back l = (λ i. record l {
    spin = record l.spin { tail = link_back l.spin.tail i };
    wait = record l.wait { tail = link_back l.wait.tail i };
  })

  entry_back : (e : LockName × NodeName) → renamed_entry (reversed r) (renamed_entry r e) ≡ e
  entry_back e = (λ i. (e.0, record e.1 { cpu = is.undone e.1.cpu i }))

  pub reversed_is : IsRenaming n (reversed r)
  reversed_is = record { undone = is.redone; redone = is.undone; others = back_others r n is }

  pub composed_is : (q : Renaming) → IsRenaming n q → IsRenaming n (composed q r)
  composed_is q iq = record {
    undone = λ p. ap (λ k. r.back k) (iq.undone (r.to p)) ∙ is.undone p;
    redone = λ p. ap (λ k. q.to k) (is.redone (q.back p)) ∙ iq.redone p;
    others = λ p high. ap (λ k. q.to k) (is.others p high) ∙ iq.others p high;
  }

  pub reversed_alike : (setup : Setup) → IsAmongAlike setup r → IsAmongAlike setup (reversed r)
  reversed_alike setup alike = record {
    programs = λ p h. sym (alike.programs (r.back p) h) ∙ ap (λ k. program_at setup k h) (is.redone p);
    handlers = λ p. sym (alike.handlers (r.back p)) ∙ ap (λ k. handlers_of setup k) (is.redone p);
    sockets = λ p. sym (alike.sockets (r.back p)) ∙ ap (λ k. get_or setup.topology.sockets.items k 0) (is.redone p);
  }

pub composed_alike : (r q : Renaming) (setup : Setup) → IsAmongAlike setup r → IsAmongAlike setup q
    → IsAmongAlike setup (composed q r)
composed_alike r q setup ar aq = record {
  programs = λ p h. aq.programs (r.to p) h ∙ ar.programs p h;
  handlers = λ p. aq.handlers (r.to p) ∙ ar.handlers p;
  sockets = λ p. aq.sockets (r.to p) ∙ ar.sockets p;
}

-- the machine comes back
module _ (r : Renaming) (m : Machine) (is : IsRenaming (length m.cpus) r) where
  read_back : (k : ℕ) → renamed_cpu (reversed r) (cpu_at (renamed r m) (r.to k)) ≡ cpu_at m k
  read_back k =
      ap (λ c. renamed_cpu (reversed r) c) (cpu-back r m is (r.to k))
      ∙ cpu_back r (length m.cpus) is (cpu_at m (r.back (r.to k)))
      ∙ ap (λ j. cpu_at m j) (is.undone k)

  cpus_back : renamed_cpus (reversed r) (renamed r m) 0 (length (renamed r m).cpus) ≡ m.cpus
  unfolding cpu_at
  cpus_back =
      ext_get_or no_cpu _ m.cpus (cpus_long (reversed r) (renamed r m) 0 (length (renamed r m).cpus) ∙ cpus-renamed r m is)
      (λ k lt.
      let low = subst (λ (j : ℕ). k < j) (cpus_long (reversed r) (renamed r m) 0 (length (renamed r m).cpus)) lt in
      let e : 0 + k ≡ k = omega arith in
      cpus_each (reversed r) (renamed r m) 0 (length (renamed r m).cpus) k low
      ∙ ap (λ j. renamed_cpu (reversed r) (cpu_at (renamed r m) (r.to j))) e
      ∙ read_back k)

  pub renamed_back : renamed (reversed r) (renamed r m) ≡ m
  renamed_back = (λ i. record m {
    locks = each_back (λ l. renamed_lock (reversed r) l) (λ l. renamed_lock r l) (lock_back r (length m.cpus) is) m.locks i;
    cpus = cpus_back i;
    hash = each_back (λ e. renamed_entry (reversed r) e) (λ e. renamed_entry r e) (entry_back r (length m.cpus) is) m.hash i;
  })

pub twice : RenamedTwice
twice q r m is = renamed_twice q r m is

pub back : RenamedBack
back r m is = renamed_back r m is

pub compose : RenamingsCompose
compose setup count r q one other = record {
  both = record { is = composed_is r count one.is q other.is; alike = composed_alike r q setup one.alike other.alike };
  back = record { is = reversed_is r count one.is; alike = reversed_alike r count one.is setup one.alike };
}
