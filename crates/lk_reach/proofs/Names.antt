-- What most proofs of this crate name, passed on from one place: words of std, of the crates below,
-- and of this crate's own specs. It declares nothing. A name that three files or more use stands here;
-- a rarer one, or one of two that are spelled alike, each file takes from its own module.
pub use Rattle.std.proofs.lemmas.Bool.{cases_eq, cases_lt}
pub use Rattle.std.proofs.lemmas.List.{length-map}
pub use Rattle.std.proofs.lemmas.Option.{slice_get-get_or, slice_get_within}
pub use Rattle.lk_names.proofs.ByIndex.{get-append, get-append_new, get_cases}
pub use Rattle.lk_names.specs.ListOf.{ListOf}
pub use Rattle.lk_names.specs.declared.events.Act.{Act}
pub use Rattle.lk_names.specs.declared.events.Event.{Event}
pub use Rattle.lk_rows.specs.Acts.{next, processor_of}
pub use Rattle.lk_rows.specs.Machine.{CpuState, Machine, no_cpu, rest_frame, top_frame}
pub use Rattle.lk_rows.specs.Programs.{IsLawfulSetup}
pub use Rattle.lk_rows.specs.Row.{Answer}
pub use Rattle.lk_rows.specs.Run.{at_rest, machine_after}
pub use Rattle.lk_rows.specs.declared.parts.Frame.{Frame}
pub use Rattle.lk_rows.specs.declared.parts.Pc.{Pc}
pub use Rattle.lk_rows.specs.declared.setup.Op.{Op}
pub use Rattle.lk_rows.specs.declared.setup.Setup.{Setup}
pub use Rattle.lk_machine.specs.Parts.{SharedValue, is_over, row_of}
pub use Rattle.lk_law.specs.MachineLaws.{AreInRange}
pub use Rattle.lk_law.specs.Sound.{IsSound}
pub use Rattle.lk_idle.specs.Alike.{AreAlike, bared, bared_cpu, rested_frame}
pub use Rattle.lk_renaming.specs.Renamed.{renamed, renamed_act}
pub use Rattle.lk_renaming.specs.Renaming.{Renaming}
pub use Rattle.lk_touch.specs.Touching.{Touches}
pub use Rattle.lk_reach.specs.Copies.{tight, tight_lists, tight_setup}
pub use Rattle.lk_reach.specs.Deeds.{IsSought}
pub use Rattle.lk_reach.specs.Ends.{AreFinishing, IsMarkedOnly, StaysAt}
pub use Rattle.lk_reach.specs.Explored.{Among, AreAllMoves, AreColumns, IsExplored, IsGood, IsLeft}
pub use Rattle.lk_reach.specs.Explored.{IsOrigin, IsStepped, IsSuch, KeepsLike, LeadsTo, OnlyMoves}
pub use Rattle.lk_reach.specs.Folded.{Fits, HaveFolds, IsBehind, IsHere, IsNoted, StandsFor}
pub use Rattle.lk_reach.specs.Helped.{AreFound, AreFresh, AreHelpers, HaveWays, LeadsThere, MayLook}
pub use Rattle.lk_reach.specs.Kinds.{kind_value}
pub use Rattle.lk_reach.specs.Numbers.{firsts, four_at, key_at, none, number_at, origin_at}
pub use Rattle.lk_reach.specs.Numbers.{place_at}
pub use Rattle.lk_reach.specs.Order.{IsPlaced, renaming_of}
pub use Rattle.lk_reach.specs.Path.{IsPath}
pub use Rattle.lk_reach.specs.Peers.{IsPeer}
pub use Rattle.lk_reach.specs.Reach.{AreMoves, AreOver, IsBegun, IsMove, IsReached, MakesRow, after}
pub use Rattle.lk_reach.specs.Reach.{bare, cpus_of, run, start_of, state_after}
pub use Rattle.lk_reach.specs.Rows.{AreMarked, AreUsed}
pub use Rattle.lk_reach.specs.Seeking.{NoneAt}
pub use Rattle.lk_reach.specs.Sights.{AreGoing}
pub use Rattle.lk_reach.specs.Space.{AddsParts, Folds, Grows, HasShared, IsFront, IsSameKind, Keeps}
pub use Rattle.lk_reach.specs.Space.{KeyKeeps, Rests, SpaceValue}
pub use Rattle.lk_reach.specs.Steps.{AreMade}
pub use Rattle.lk_reach.specs.Told.{IsGraph, IsWay, IsWhole}
pub use Rattle.lk_reach.specs.declared.book.Book.{Book}
pub use Rattle.lk_reach.specs.declared.deeds.Sought.{Sought}
pub use Rattle.lk_reach.specs.declared.folding.Here.{Here}
pub use Rattle.lk_reach.specs.declared.graph.Graph.{Graph}
pub use Rattle.lk_reach.specs.declared.helper.Helper.{Helper}
pub use Rattle.lk_reach.specs.declared.key.Key.{Key}
pub use Rattle.lk_reach.specs.declared.origin.Origin.{Origin}
pub use Rattle.lk_reach.specs.declared.plan.Extras.{Extras}
pub use Rattle.lk_reach.specs.declared.plan.Plan.{Plan}
pub use Rattle.lk_reach.specs.declared.steps.Made.{Made}
