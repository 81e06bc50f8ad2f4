-- Scopes that are seen alike give each variable one value.
use Rattle.std.proofs.Common.{◌≡◌, ℕ, List, [], ◌∷◌, ◌++◌, None, unwrap_or, option_and_then, option_map, inl, inr, codes, refl, sym, ap, ◌∙◌}
use Rattle.std.specs.Prelude.{if◌then◌else◌, ◌==◌}
use Rattle.std.specs.List.{before_first, after_first}
use Rattle.std.specs.Str.{bytes_eq}
use Rattle.std.proofs.lemmas.Bool.{cases_Bool}
use Rattle.nuc_base.specs.Pointers.{tokens}
use Rattle.tree_core.specs.Nodes.{node}
use Rattle.interpolation.specs.declared.scope.Place.{Place}
use Rattle.interpolation.specs.declared.scope.Scope.{Scope}
use Rattle.interpolation.specs.Laws.{ExpandAlike}
use Rattle.interpolation.specs.Scopes.{IsAlikePlace, AreAlikePlaces, AreAlike, first_named}
use Rattle.interpolation.specs.Values.{shown, is_pointer, behind, row, first_given, of_component, value, short, replaced, written}
use Rattle.interpolation.specs.Variables.{Part, Expanded, joined}
use Rattle.interpolation.proofs.Cuttings.{one_text}

component_alike : (r s : List ℕ) (p q : Place) (w : List ℕ) → r ≡ s → IsAlikePlace p q → of_component r p w ≡ of_component s q w
component_alike r s p q w root h = λ i. first_given (
    option_and_then (λ at. if is_pointer at then option_map shown (node (tokens at) (h.config i)) else None) (behind (codes "configuration:") w)
    ∷ row (codes "artifacts:path") (root i ++ (codes "/packages/artifacts/" ++ (h.name i ++ (codes "/" ++ h.version i)))) w
    ∷ row (codes "artifacts:decompressedPath") (root i ++ (codes "/packages/artifacts-unarchived/" ++ (h.name i ++ (codes "/" ++ h.version i)))) w
    ∷ row (codes "work:path") (root i ++ (codes "/work/" ++ h.name i)) w
    ∷ [])

needed_alike : (r s : List ℕ) (ps qs : List Place) (name w : List ℕ) → r ≡ s → AreAlikePlaces ps qs
    → option_and_then (λ place. of_component r place w) (first_named name ps) ≡ option_and_then (λ place. of_component s place w) (first_named name qs)
needed_alike r s [] [] name w root h = refl
needed_alike r s [] (q ∷ qs) name w root h = absurd h
needed_alike r s (p ∷ ps) [] name w root h = absurd h
needed_alike r s (p ∷ ps) (q ∷ qs) name w root h =
    let same = ap (λ n. bytes_eq n name) (sym h.0.name) in
    elim (cases_Bool (bytes_eq p.name name)) [
      | inl found ↦ let also = same ∙ found in rw (found, also) (component_alike r s p q w root h.0)
      | inr other ↦ let also = same ∙ other in rw (other, also) (needed_alike r s ps qs name w root h.1)
    ]

value_alike : (s t : Scope) (w : List ℕ) → AreAlike s t → value s w ≡ value t w
value_alike s t w h = λ i. first_given (
    component_alike s.root t.root s.own t.own w h.root h.own i
    ∷ row (codes "kernel:rootPath") (h.root i) w
    ∷ row (codes "iot:thingName") (h.thing i) w
    ∷ needed_alike s.root t.root s.needed t.needed (before_first (λ b. b == 58) w) (after_first (λ b. b == 58) w) h.root h.needed i
    ∷ [])

replaced_alike : (s t : Scope) (w : List ℕ) → AreAlike s t → replaced s w ≡ replaced t w
replaced_alike s t w h = ap (λ v. unwrap_or (short v) (written w)) (value_alike s t w h)

joined_alike : (f g : List ℕ → List ℕ) (parts : List Part) (last : List ℕ) → ((w : List ℕ) → f w ≡ g w) → joined f parts last ≡ joined g parts last
joined_alike f g [] last same = refl
joined_alike f g (part ∷ parts) last same = λ i. part.plain ++ (same part.inside i ++ joined_alike f g parts last same i)

expanded_alike : (s t : Scope) (text a : List ℕ) → AreAlike s t → Expanded s text a → Expanded t text a
expanded_alike s t text a h (c, is) = (
  c,
  record {
    cut = is.cut;
    values = is.values ∙ joined_alike (replaced s) (replaced t) c.parts c.last
        (λ w. replaced_alike s t w h);
  },
)

pub expand_alike : ExpandAlike
expand_alike s t text a b h x y = one_text t text a b (expanded_alike s t text a h x) y
