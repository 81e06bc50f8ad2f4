-- The order of versions is total, and tells any two versions apart.
use Rattle.std.proofs.Common.{ap}
use Rattle.std.proofs.lemmas.Bool.{false≢true}
use Rattle.std.specs.Prelude.{◌≡◌, ℕ, List, Some, nat_eq}
use Rattle.std.specs.Ordering.{eq_by_cmp, is_eq, nat_cmp, ordering_then}
use Rattle.std.specs.Cmp.{IsPartialOrder, IsTotalOrder, nat_cmp_total, on_total, po, then_total}
use Rattle.std.specs.Cmp.Lexicographic.{nat_list_cmp_total, pointwise, slice_cmp}
use Rattle.std.specs.FinMap.{IsAntisymmetric, nat_cmp-IsAntisymmetric, slice_cmp-IsAntisymmetric}
use Rattle.std.specs.declared.cmp.Ordering.{Ordering}
use Rattle.std.specs.declared.cmp.Ordering.TheVariants.{Less, Equal, Greater}
use Rattle.semver.specs.OrderLaws.{order_ties, pre_total}
use Rattle.semver.specs.Parse.{Parts}
use Rattle.npm_ranges.specs.Versions.{parts_in, parts_order, precedence, text_order, version_order}

pub precedence_total : IsTotalOrder precedence
precedence_total = then_total (on_total (λ (p : Parts). p.0) nat_cmp_total) (then_total (on_total (λ (p : Parts). p.1) nat_cmp_total)
    (then_total (on_total (λ (p : Parts). p.2) nat_cmp_total) (on_total (λ (p : Parts). p.3) pre_total)))

pub parts_total : IsTotalOrder parts_order
parts_total = then_total precedence_total (on_total (λ (p : Parts). p.4) nat_list_cmp_total)

pub version_total : IsTotalOrder version_order
version_total = on_total parts_in parts_total

pub text_total : IsTotalOrder text_order
text_total = then_total version_total nat_list_cmp_total

-- a comparison that ties ties in its second part
pub then_second : (r s : Ordering) → ordering_then r s ≡ Equal → s ≡ Equal
then_second Less s e = absurd (false≢true (ap is_eq e))
then_second Equal s e = e
then_second Greater s e = absurd (false≢true (ap is_eq e))

pub text-anti : IsAntisymmetric text_order
text-anti x y e = slice_cmp-IsAntisymmetric nat_cmp-IsAntisymmetric x y (then_second (version_order x y) (slice_cmp nat_cmp x y) e)

pub text_order_ties : (x y : List ℕ) → pointwise nat_eq x y ≡ eq_by_cmp text_order x y
text_order_ties = order_ties text_order text_total text-anti

pub text_po : IsPartialOrder (pointwise nat_eq) (λ x y. Some (text_order x y))
text_po = po text_total text_order_ties
