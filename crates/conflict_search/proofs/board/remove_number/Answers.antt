use Rattle.std.proofs.Common.{ℕ, ◌≡◌, ◌≢◌, Bool, true, false, cond, refl, sym, ap, ◌∙◌, subst}
use Rattle.std.specs.List.{Contains}
use Rattle.std.specs.Ordering.{nat_cmp}
use Rattle.std.specs.BTreeMap.{is_at}
use Rattle.std.specs.BTreeSet.{contains}
use Rattle.std.proofs.lemmas.Bool.{false≢true}
use Rattle.std.proofs.lemmas.Cmp.{nat_cmp_total, tied_itself}
use Rattle.std.proofs.lemmas.Map.Lookups.{exact_unsigned}
use Rattle.std.proofs.lemmas.Map.Views.{btree_set_contains_iff}
use Rattle.std.specs.declared.cmp.Ordering.{Ordering}
use Rattle.std.specs.declared.cmp.Ordering.TheVariants.{Less, Equal, Greater}
use Rattle.std.specs.Ordering.{is_eq}
use Rattle.conflict_search.proofs.board.remove_number.Goals as goal

kept_elsewhere : (b x : Bool) → cond b false x ≡ true → (b ≡ false) × (x ≡ true)
kept_elsewhere true x e = absurd (false≢true e)
kept_elsewhere false x e = (refl, e)

equal_or_not : (o : Ordering) → (o ≡ Equal → ⊥) → is_eq o ≡ false
equal_or_not Less n = refl
equal_or_not Equal n = absurd (n refl)
equal_or_not Greater n = refl

at_itself : (k q : ℕ) → q ≡ k → is_at (nat_cmp k) q ≡ true
at_itself k q e = ap is_eq (ap (λ z. nat_cmp k z) e ∙ tied_itself nat_cmp_total k)

pub returns : goal.returns
returns c = λ q.
    let k = c.args.number in
    let old = btree_set_contains_iff nat_cmp_total exact_unsigned c.args.numbers.now q in
    let new = btree_set_contains_iff nat_cmp_total exact_unsigned c.remove.new.self q in
    let u = c.remove.ensures.updates.0 q in (
      λ i. (let both = kept_elsewhere (is_at (nat_cmp k) q) _ (sym u ∙ new.1 i) in
          (old.0 both.1, λ e. false≢true (sym both.0 ∙ at_itself k q e))),
      λ h. new.0 (u ∙ ap (λ b. cond b false (contains nat_cmp c.args.numbers.now q)) (equal_or_not (nat_cmp k q) (λ e. h.1 (sym (exact_unsigned k q e))))
          ∙ old.1 h.0),
    )
