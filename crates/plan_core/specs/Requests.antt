-- What is wanted of the candidates: what all other groups ask, and what the document asks of its own.
use Rattle.std.specs.Prelude.{ℕ, List, [], ◌++◌, map, if◌then◌else◌}
use Rattle.std.specs.List.{flat_map}
use Rattle.std.specs.Str.{bytes_eq}
use Rattle.recipe_reader.specs.Members.{Need}
use Rattle.records.specs.declared.record.Requirement.{Requirement}
use Rattle.records.specs.declared.record.Group.{Group}
use Rattle.deployment_doc.specs.declared.document.Root.{Root}
use Rattle.deployment_doc.specs.declared.document.Document.{Document}

abbrev pub requirement_need : Requirement → Need
requirement_need r = record { name = r.name; range = r.range }

abbrev pub root_need : Root → Need
root_need r = record { name = r.name; range = r.range }

-- what the group asks, unless it is the one of this name
abbrev pub asked_beside : List ℕ → Group → List Need
asked_beside arn g = if bytes_eq arn g.arn then [] else map requirement_need g.requirements

-- the requirements of the other groups, in the groups' order, and then the document's roots
abbrev pub wanted_of : List Group → Document → List Need
wanted_of groups document = flat_map (asked_beside document.group) groups ++ map root_need document.roots

-- what the document's group asks from then on
abbrev pub root_requirement : Root → Requirement
root_requirement r = record { name = r.name; range = r.range }
