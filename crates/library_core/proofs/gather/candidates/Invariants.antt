use Rattle.std.proofs.Common.{◌≡◌, ◌≢◌, ◌+◌, ◌≤◌, ℕ, List, IsTrue, length, map, take, Some, IsSome, IfOk, IfErr}
use Rattle.std.specs.List.{All}
use Rattle.records.specs.Stored.{item_view}
use Rattle.library_core.specs.Library.{StaysTold}
use Rattle.library_core.specs.Sources.{own, MayPass}
use Rattle.library_core.specs.SoFar.{IsSoFar}
use Rattle.library_core.specs.declared.fault.CandidatesFault.TheVariants.{Library}
use Rattle.library_core.proofs.gather.candidates.Given as goal

abbrev pub invariant-loop-at : goal.invariant-loop-at
invariant-loop-at g l = record {
  kept : StaysTold g.L.Library.content g.L.Library.coming l.fn.library l.library;
  quiet : g.L.Library.faults l.library ≡ g.L.Library.faults l.fn.library;
  few : IfOk l.gathered (λ cs. length cs ≤ 129 + l.at);
  held : IfErr l.gathered (λ f. f ≢ Library);
  tells : IsTrue (g.L.Library.content l.library).tells → IsSome (g.L.Library.content l.library).recipes;
  counted : (rs : List (List ℕ)) → (g.L.Library.content l.library).recipes ≡ Some rs → l.count ≡ length rs;
  told : (rs : List (List ℕ)) → (g.L.Library.content l.library).recipes ≡ Some rs → All (MayPass l.origin.platform) (take l.at rs) ×
      IsSoFar (own l.origin (map item_view l.kept)) l.origin.platform (take l.at rs) l.gathered;
  given : (given : List (List ℕ)) × IsSoFar (own l.origin (map item_view l.kept)) l.origin.platform given l.gathered;
}
