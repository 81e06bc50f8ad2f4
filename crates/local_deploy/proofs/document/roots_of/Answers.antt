use Rattle.std.proofs.Common.{◌≡◌, ◌∷◌, ◌++◌, List, ℕ, map, refl, sym, subst, ◌∙◌}
use Rattle.std.specs.Cmp.Lexicographic.{slice_cmp}
use Rattle.std.specs.List.Sorted.{IsStrictlySortedBy}
use Rattle.std.specs.Map.{keys_of}
use Rattle.std.specs.Ordering.{nat_cmp}
use Rattle.config_ops.specs.declared.update.Update.{Update}
use Rattle.deployment_doc.specs.declared.document.Root.{Root}
use Rattle.local_deploy.specs.Documents.{root_for}
use Rattle.local_deploy.specs.Lists.{Asked, range_at}
use Rattle.local_deploy.proofs.Lookups.{Entries, by_bytes}
use Rattle.local_deploy.proofs.Rooting.{AreAmong, IsLeft, among_next, left_next, next_left, pushes, root_is}
use Rattle.local_deploy.proofs.document.roots_of.Goals as goal

pub names-preserved : goal.names-preserved
names-preserved c =
    let whole : Asked = c.args.list.entries in
    let old : Entries Update = c.args.updates.now.entries in
    let e : List ℕ × List ℕ = (c.in-Some.name, c.in-Some.range) in
    let rest : Asked = c.pop_first.new.self.entries in
    let before : Entries Update = c.names.updates.entries in
    let split : c.names.list.entries ≡ e ∷ rest = c.in-Some.ensures.removal in
    let left : IsLeft old whole (e ∷ rest) before = subst (λ (l : Asked). IsLeft old whole l before) split c.names.invariant.left in
    let rises : IsStrictlySortedBy (slice_cmp nat_cmp) (keys_of (e ∷ rest)) =
    subst (λ (l : Asked). IsStrictlySortedBy (slice_cmp nat_cmp) (keys_of l)) split c.names.invariant.rises in
    let among : AreAmong (e ∷ rest) whole = subst (λ (l : Asked). AreAmong l whole) split c.names.invariant.among in
    let value : c.remove-update.result ≡ range_at e.0 old = c.remove-update.ensures.value ∙ by_bytes e.0 before ∙ next_left old whole e rest before left in
    let x : Root = record { name = c.in-Some.name; range = c.in-Some.range; update = c.remove-update.result } in
    record {
      made = subst (λ (l : List Root). l ++ map (root_for old) rest ≡ map (root_for old) whole) (sym c.in_ok-push.ensures.items)
          (pushes old whole c.names.list.entries rest e c.names.roots.items x split (root_is old x e refl refl value) c.names.invariant.made);
      left = left_next old whole e rest before c.remove-update.new.self.entries left rises among c.remove-update.ensures.updates.0;
      rises = c.in-Some.ensures.ordered;
      among = among_next e rest whole among;
    }
