-- Two versions that tie are the same text.
use Rattle.std.proofs.Common.{◌≡◌, ℕ, List, refl, sym, ap, ◌∙◌}
use Rattle.std.specs.Ordering.{nat_cmp, ordering_then}
use Rattle.std.specs.Cmp.{tied_itself}
use Rattle.std.specs.Cmp.Lexicographic.{nat_list_cmp_total, slice_cmp}
use Rattle.std.specs.FinMap.{nat_cmp-IsAntisymmetric, slice_cmp-IsAntisymmetric}
use Rattle.std.specs.declared.cmp.Ordering.{Ordering}
use Rattle.std.specs.declared.cmp.Ordering.TheVariants.{Less, Equal, Greater}
use Rattle.semver.specs.Identifiers.{parts_text}
use Rattle.semver.specs.Order.{pre_cmp}
use Rattle.semver.specs.OrderLaws.{pre-anti}
use Rattle.semver.specs.Parse.{Parts}
use Rattle.npm_ranges.specs.OrderLaws.{then_second}
use Rattle.npm_ranges.specs.Versions.{IsVersion, parts_in, parts_order, precedence, text_order, version_order}
use Rattle.npm_ranges.proofs.VersionTexts.{version_spells}

pub then_first : (r s : Ordering) → ordering_then r s ≡ Equal → r ≡ Equal
then_first Less s e = cc e
then_first Equal s e = refl
then_first Greater s e = cc e

-- what a tie in precedence says
pub record IsTied (p q : Parts) : Type 0 where
  pub major : p.0 ≡ q.0
  pub minor : p.1 ≡ q.1
  pub patch : p.2 ≡ q.2
  pub pre : p.3 ≡ q.3

pub precedence_ties : (p q : Parts) → precedence p q ≡ Equal → IsTied p q
precedence_ties p q e =
    let first = then_second (nat_cmp p.0 q.0) (ordering_then (nat_cmp p.1 q.1) (ordering_then (nat_cmp p.2 q.2) (pre_cmp p.3 q.3))) e in
    let second = then_second (nat_cmp p.1 q.1) (ordering_then (nat_cmp p.2 q.2) (pre_cmp p.3 q.3)) first in
    let third = then_second (nat_cmp p.2 q.2) (pre_cmp p.3 q.3) second in
    record {
      major = nat_cmp-IsAntisymmetric p.0 q.0 (then_first (nat_cmp p.0 q.0) _ e);
      minor = nat_cmp-IsAntisymmetric p.1 q.1 (then_first (nat_cmp p.1 q.1) _ first);
      patch = nat_cmp-IsAntisymmetric p.2 q.2 (then_first (nat_cmp p.2 q.2) _ second);
      pre = pre-anti p.3 q.3 third;
    }

parts_tell : (p q : Parts) → parts_order p q ≡ Equal → p ≡ q
parts_tell p q e =
    let t = precedence_ties p q (then_first (precedence p q) (slice_cmp nat_cmp p.4 q.4) e) in
    let build : p.4 ≡ q.4 = slice_cmp-IsAntisymmetric nat_cmp-IsAntisymmetric p.4 q.4 (then_second (precedence p q) (slice_cmp nat_cmp p.4 q.4) e) in
    λ i. (t.major i, t.minor i, t.patch i, t.pre i, build i)

pub versions_tell : (a b : List ℕ) → IsVersion a → IsVersion b → version_order a b ≡ Equal → a ≡ b
versions_tell a b v w e = version_spells a v ∙ ap parts_text (parts_tell (parts_in a) (parts_in b) e) ∙ sym (version_spells b w)

by_text : (a b : List ℕ) (r : Ordering) → (r ≡ Equal → a ≡ b) → r ≡ ordering_then r (slice_cmp nat_cmp a b)
by_text a b Less h = refl
by_text a b Equal h = sym (ap (λ (x : List ℕ). slice_cmp nat_cmp x b) (h refl) ∙ tied_itself nat_list_cmp_total b)
by_text a b Greater h = refl

-- the two orders are one at versions
pub orders_agree : (a b : List ℕ) → IsVersion a → IsVersion b → version_order a b ≡ text_order a b
orders_agree a b v w = by_text a b (version_order a b) (versions_tell a b v w)
