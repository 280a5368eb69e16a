-- Where the rows of the queue lead.
use Rattle.std.proofs.Common.{◌≡◌, ℕ, Bool, true, false, Option, Some, None, [], refl, ◌&&◌, nat_lt}
use Rattle.std.proofs.Common.{not, is_some, if◌then◌else◌}
use Rattle.lk_idle.proofs.Names.{Fields, NodeName, Mode, Pv, is_node, node_of, Enters, Goes, Flag}
use Rattle.lk_idle.proofs.Names.{Frame, G2, G3, G4, G5, G6, G7, G8, G9, G10, N1, N2, entry_row}
use Rattle.lk_idle.proofs.Names.{flag_row, next_row, queue_row, is_unlocked, none_lives}
use Rattle.lk_idle.proofs.Names.{second_lives, Lives}
use Rattle.lk_names.specs.declared.names.Mode.TheVariants.{Cna}
use Rattle.lk_rows.specs.rows.Queue.{after_entry, after_arrival, after_head, after_link, is_sole}
use Rattle.lk_rows.specs.rows.Spin.{is_free}
use Rattle.lk_idle.proofs.{Branches.{Fine, pick, goes}, Leading.LeadsFine}
use Rattle.lk_rows.specs.declared.parts.Flag.TheVariants as flag

-- those that live where the own node is linked
abbrev pub link_lives : Lives
link_lives = record second_lives { prev = true }

module _ (p : ℕ) (f : Frame) where
  enters : (mode : Mode) (n : NodeName) → n.cpu ≡ p
      → LeadsFine p none_lives f (Enters (Some n) (after_entry mode (Some n)))
  enters Pv n own = (refl, own)
  enters mode n own = (refl, own)

  bare : (mode : Mode) → LeadsFine p none_lives f (Enters None (after_entry mode None))
  bare Pv = refl
  bare mode = refl

  pub G1-fine : (mode : Mode) (i : ℕ) → Fine p none_lives f (entry_row mode p i)
  G1-fine mode i = record { leads = by (nat_lt i 4) }
    where
      by : (b : Bool) → LeadsFine p none_lives f (Enters (if b then Some (record { cpu = p; index = i }) else None)
          (after_entry mode (if b then Some (record { cpu = p; index = i }) else None)))
      by true = enters mode (record { cpu = p; index = i }) refl
      by false = bare mode

  arrives : (mode : Mode) (tail : Option NodeName) → LeadsFine p second_lives f (after_arrival mode tail).leads
  arrives Pv None = refl
  arrives mode None = refl
  arrives mode (Some n) = refl

  heads : (mode : Mode) → LeadsFine p second_lives f (Goes (after_head mode) [])
  heads Cna = refl
  heads mode = refl

  links : (mode : Mode) (spins : ℕ) → LeadsFine p link_lives f (after_link mode spins)
  links Pv spins = refl
  links mode spins = refl

  pub G5-fine : (mode : Mode) (spins : ℕ) (x : Option NodeName) → Fine p link_lives f (next_row mode spins G5 f x)
  G5-fine mode spins x = record { leads = links mode spins }

  pub G6-fine : (x : Flag) → Fine p second_lives f (flag_row G6 f x)
  G6-fine flag.Unset = record { leads = refl }
  G6-fine flag.Go = record { leads = refl }
  G6-fine (flag.Second n) = record { leads = refl }

  pub G10-fine : (mode : Mode) (spins : ℕ) (x : Option NodeName) → Fine p none_lives f (next_row mode spins G10 f x)
  G10-fine mode spins None = record { leads = refl }
  G10-fine mode spins (Some n) = record { leads = refl }

  module _ (mode : Mode) (x : Fields) where
    pub G2-fine : Fine p second_lives f (queue_row mode G2 f x)
    G2-fine = record { leads = goes p second_lives f (is_free x) _ _ [] refl refl }

    pub G3-fine : Fine p second_lives f (queue_row mode G3 f x)
    G3-fine = pick (is_free x) _ _ (record { leads = tt }) (record { leads = refl })

    pub G4-fine : Fine p second_lives f (queue_row mode G4 f x)
    G4-fine = record { leads = arrives mode x.tail }

    pub G7-fine : Fine p second_lives f (queue_row mode G7 f x)
    G7-fine = record {
      leads = goes p second_lives f (is_unlocked x.locked && not x.pending) _ _ []
          (goes p second_lives f (is_node x.tail (node_of f.me) && not (is_some f.second)) _ _ [] refl refl) refl;
    }

    pub G8-fine : Fine p second_lives f (queue_row mode G8 f x)
    G8-fine = pick (is_sole f x) _ _ (record { leads = tt }) (record { leads = refl })

    pub G9-fine : Fine p second_lives f (queue_row mode G9 f x)
    G9-fine = record { leads = heads mode }

    pub N1-fine : Fine p none_lives f (queue_row mode N1 f x)
    N1-fine = record { leads = goes p none_lives f (is_free x) _ _ [] refl refl }

    pub N2-fine : Fine p none_lives f (queue_row mode N2 f x)
    N2-fine = pick (is_free x) _ _ (record { leads = tt }) (record { leads = refl })
