use Rattle.std.proofs.Common.{◌≡◌, List, ℕ, nat_eq, sym, ◌∙◌, subst}
use Rattle.std.specs.List.{dedup}
use Rattle.std.specs.Cmp.Lexicographic.{pointwise}
use Rattle.std.proofs.lemmas.List.Filters.{dedup_is}
use Rattle.disk_model.specs.Files.{image_of}
use Rattle.disk_model.specs.Listing.{IsListing}
use Rattle.disk_model.proofs.Sorting.{sorted_listing}
use Rattle.disk_model.proofs.files.Files.listed.Goals as goal

pub returns : goal.returns
returns c =
    let ordered = c.sort.new.self.items in
    let is : c.new.result ≡ dedup (pointwise nat_eq) ordered = c.new.ensures ∙ dedup_is (pointwise nat_eq) ordered c.dedup.new.self.items
    c.dedup.ensures.filtered in
    subst (λ (l : List (List ℕ)). IsListing c.args.folder.now (image_of c.args.self.now) l) (sym is)
    (sorted_listing c.args.folder.now (image_of c.args.self.now) c.in_ok-names.names.items ordered c.in_ok-names.ensures c.in_ok-sort.ensures.permutation
    c.in_ok-sort.ensures.sorted)
