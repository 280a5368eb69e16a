-- A replay whose header was read.
use Rattle.std.proofs.Common.{true, false, ◌≡◌, ℕ, List, [], Option, map, sym, ap, ◌∙◌, subst}
use Rattle.lk_text.specs.Bytes.{Conveys}
use Rattle.lk_text.specs.Block.{waiting}
use Rattle.lk_text.specs.Feeds.{line_of}
use Rattle.lk_text.proofs.Conveyed.{Conveys-nothing}
use Rattle.lk_rows.specs.Programs.{IsLawfulSetup}
use Rattle.lk_forms.specs.Grammar.{Reading, has_go}
use Rattle.lk_forms.specs.Trace.{reading_after, setup_of}
use Rattle.lk_forms.proofs.Lawful.{lawful_setup}
use Rattle.lk_text.specs.declared.reader.LineReader.{LineReader}
use Rattle.lk_replay.specs.Reads.{ReadsTo}
use Rattle.lk_replay.specs.Header.{HeaderStands}
use Rattle.lk_replay.specs.Run.{RanTo}
use Rattle.lk_replay.specs.Stands.{Stands, OpensAtGo}
use Rattle.lk_replay.specs.Transcript.{lines_of_run}
use Rattle.lk_replay.specs.declared.replaying.Replaying.{Replaying}
use Rattle.lk_replay.proofs.HeaderSteps.{not_ended}

module _ (input left : Option (List ℕ)) (header : Reading) (reader : LineReader) (s : HeaderStands input header reader left) where
  -- the setup that the header says is lawful
  pub header_lawful : IsLawfulSetup header.setup
  header_lawful = subst (λ x. IsLawfulSetup x.setup) s.said (lawful_setup (map line_of s.before))

  pub opens : (r : Replaying) (held : Option (List ℕ)) → r.reader ≡ reader → has_go header ≡ true → RanTo r.run header.setup [] → r.ended ≡ false → waiting r.block ≡ [] → Stands input held r left held
  opens r held same gone ran ended nothing = record {
    before = s.before;
    reads = subst (λ x. ReadsTo input x left s.before) (sym same) s.reads;
    gone = ap has_go s.said ∙ gone;
    ended = ended ∙ sym (not_ended (reading_after s.before) s.early);
    ran = subst (RanTo r.run (setup_of s.before)) (sym s.no_acts) (subst (λ x. RanTo r.run x.setup []) (sym s.said) ran);
    written = subst (λ l. Conveys held held [] (lines_of_run (setup_of s.before) l) (waiting r.block)) (sym s.no_acts)
        (subst (Conveys held held [] []) (sym nothing) (Conveys-nothing held []));
  }

  -- nothing was read behind `go`
  pub opens_at_go : (r : Replaying) → r.reader ≡ reader → has_go header ≡ true → OpensAtGo input r left
  opens_at_go r same gone = record {
    before = s.before;
    reads = subst (λ x. ReadsTo input x left s.before) (sym same) s.reads;
    gone = ap has_go s.said ∙ gone;
    last = s.at_go gone;
  }
