use Rattle.recipe_reader.proofs.Adding.{settled_at, put_at}
use Rattle.recipe_reader.proofs.candidates.Candidates.add.Goals as goal

pub invariant_of-self : goal.invariant_of-self
invariant_of-self c = (put_at _ _ _ _ c.args.candidate c.in-Err.at c.put.result c.self.view_is c.as_slice.ensures c.self.invariant c.requires.read
    c.requires.room c.in-Err.ensures.within c.in-Err.ensures.place c.put.ensures.put c.put.ensures.refused).rule

pub returns-in-Ok-clause-added : goal.returns-in-Ok-clause-added
returns-in-Ok-clause-added c = (settled_at _ _ _ _ c.args.candidate _ c.in-Ok.at c.settle.result c.self.view_is c.as_slice.ensures c.as_slice-in-Ok.ensures
    c.self.invariant c.in-Ok.ensures.within c.index-as_slice-at.is c.in-Ok.ensures.place c.settle.ensures).added

pub returns-in-Ok-clause-agrees : goal.returns-in-Ok-clause-agrees
returns-in-Ok-clause-agrees c = (settled_at _ _ _ _ c.args.candidate _ c.in-Ok.at c.settle.result c.self.view_is c.as_slice.ensures c.as_slice-in-Ok.ensures
    c.self.invariant c.in-Ok.ensures.within c.index-as_slice-at.is c.in-Ok.ensures.place c.settle.ensures).agrees

pub returns-in-Ok-clause-refused : goal.returns-in-Ok-clause-refused
returns-in-Ok-clause-refused c = (settled_at _ _ _ _ c.args.candidate _ c.in-Ok.at c.settle.result c.self.view_is c.as_slice.ensures c.as_slice-in-Ok.ensures
    c.self.invariant c.in-Ok.ensures.within c.index-as_slice-at.is c.in-Ok.ensures.place c.settle.ensures).refused

pub returns-in-Err-clause-added : goal.returns-in-Err-clause-added
returns-in-Err-clause-added c = (put_at _ _ _ _ c.args.candidate c.in-Err.at c.put.result c.self.view_is c.as_slice.ensures c.self.invariant c.requires.read
    c.requires.room c.in-Err.ensures.within c.in-Err.ensures.place c.put.ensures.put c.put.ensures.refused).added

pub returns-in-Err-clause-agrees : goal.returns-in-Err-clause-agrees
returns-in-Err-clause-agrees c = (put_at _ _ _ _ c.args.candidate c.in-Err.at c.put.result c.self.view_is c.as_slice.ensures c.self.invariant c.requires.read
    c.requires.room c.in-Err.ensures.within c.in-Err.ensures.place c.put.ensures.put c.put.ensures.refused).agrees

pub returns-in-Err-clause-refused : goal.returns-in-Err-clause-refused
returns-in-Err-clause-refused c = (put_at _ _ _ _ c.args.candidate c.in-Err.at c.put.result c.self.view_is c.as_slice.ensures c.self.invariant
    c.requires.read c.requires.room c.in-Err.ensures.within c.in-Err.ensures.place c.put.ensures.put c.put.ensures.refused).refused

pub returns-in-Err-clause-rule : goal.returns-in-Err-clause-rule
returns-in-Err-clause-rule c = (put_at _ _ _ _ c.args.candidate c.in-Err.at c.put.result c.self.view_is c.as_slice.ensures c.self.invariant c.requires.read
    c.requires.room c.in-Err.ensures.within c.in-Err.ensures.place c.put.ensures.put c.put.ensures.refused).rule
