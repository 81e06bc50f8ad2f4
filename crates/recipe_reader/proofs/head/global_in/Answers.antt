use Rattle.std.proofs.Common.{◌≡◌, ◌≢◌, ◌==◌, ◌∙◌, List, [], ◌∷◌, length, true, sym, ap, inl, inr, refl, vec_len, arith}
use Rattle.serde_json.specs.Data.{Members, object, no_members}
use Rattle.tree_core.specs.View.{view, fields_view}
use Rattle.tree_core.proofs.Fields.{Field}
use Rattle.tree_core.proofs.Seen.{seen}
use Rattle.recipe_reader.proofs.head.global_in.Goals as goal

same_members : (ms ns : Members) → object ms ≡ object ns → ms ≡ ns
same_members ms ns e = cc

some_fields : (fs : List Field) → length fs ≢ 0 → fields_view fs ≡ no_members → ⊥
some_fields [] some e = some refl
some_fields (f ∷ fs) some e = cc

pub returns-else-is_empty : goal.returns-else-is_empty
returns-else-is_empty c =
    let fs = c.in-Fields.fields in
    let some : length fs.items ≢ 0 = λ e.
    let none : vec_len fs ≡ 0 = omega (arith, e) in
    let both : (vec_len fs == 0) ≡ true = ap (λ n. n == 0) none in
    cc in
    inr (inl (
      (λ (e : view c.args.value.now ≡ object no_members). some_fields fs.items some
          (same_members (fields_view fs.items) no_members (sym (ap view c.in-Fields.is ∙ seen fs) ∙ e))),
      refl,
    ))
