-- The scope of a component.
use Rattle.std.specs.Prelude.{◌≡◌, ℕ, List, [], ◌∷◌, All, Option, find, ⊤}
use Rattle.std.specs.Str.{bytes_eq}
use Rattle.tree_core.specs.Regular.{IsRegular}
use Rattle.tree_core.specs.View.{view}
use Rattle.interpolation.specs.declared.scope.Place.{Place}
use Rattle.interpolation.specs.declared.scope.Scope.{Scope}

-- each configuration is a regular tree
pub record HasRegularConfigs (scope : Scope) : Type 0 where
  pub own : IsRegular (view scope.own.config)
  pub needed : All (λ (place : Place). IsRegular (view place.config)) scope.needed

-- the first place of that name
abbrev pub first_named : List ℕ → List Place → Option Place
first_named name places = find (λ place. bytes_eq place.name name) places

-- ---- scopes that are seen alike, whatever stands for them in memory

pub record IsAlikePlace (p q : Place) : Type 0 where
  pub name : p.name ≡ q.name
  pub version : p.version ≡ q.version
  pub config : view p.config ≡ view q.config

abbrev pub AreAlikePlaces : List Place → List Place → Type 0
AreAlikePlaces [] [] = ⊤
AreAlikePlaces [] (q ∷ qs) = ⊥
AreAlikePlaces (p ∷ ps) [] = ⊥
AreAlikePlaces (p ∷ ps) (q ∷ qs) = IsAlikePlace p q × AreAlikePlaces ps qs

pub record AreAlike (s t : Scope) : Type 0 where
  pub root : s.root ≡ t.root
  pub thing : s.thing ≡ t.thing
  pub own : IsAlikePlace s.own t.own
  pub needed : AreAlikePlaces s.needed t.needed
