use Rattle.deployment_doc.proofs.Alike.{reads_one}
use Rattle.deployment_doc.proofs.Singles.{fault_one, fault_none}
use Rattle.deployment_doc.proofs.laws.document_laws.Goals as goal

pub returns-clause-one_fault : goal.returns-clause-one_fault
returns-clause-one_fault c = λ bytes f g h k. fault_one c.tree_laws.ensures.one_tree c.tree_laws.ensures.no_fault c.tree_laws.ensures.one_fault bytes f g h k

pub returns-clause-no_fault : goal.returns-clause-no_fault
returns-clause-no_fault c = λ bytes d f is h k. fault_none c.tree_laws.ensures.one_tree c.tree_laws.ensures.no_fault c.tree_laws.ensures.one_fault bytes d f
    is h k

pub returns-clause-one_document : goal.returns-clause-one_document
returns-clause-one_document c = λ bytes a b h k. reads_one c.tree_laws.ensures.one_tree bytes a b h k
