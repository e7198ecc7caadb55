use native.Mathlib.Omega.{arith}
use Rattle.items.specs.records.{further_of_kind}
use Rattle.items.specs.layout.{layout, words_of_kind}
use Rattle.items.proofs.records.Laws.{words_at, words_else}
use Rattle.items.proofs.records.words_of.Goals as goal

pub returns-in-1 : goal.returns-in-1
unfolding words_of_kind further_of_kind layout
returns-in-1 c = words_at c.in-1.is

pub returns-in-2 : goal.returns-in-2
unfolding words_of_kind further_of_kind layout
returns-in-2 c = words_at c.in-2.is

pub returns-in-3 : goal.returns-in-3
unfolding words_of_kind further_of_kind layout
returns-in-3 c = words_at c.in-3.is

pub returns-in-4 : goal.returns-in-4
unfolding words_of_kind further_of_kind layout
returns-in-4 c = words_at c.in-4.is

pub returns-in-5 : goal.returns-in-5
unfolding words_of_kind further_of_kind layout
returns-in-5 c = words_at c.in-5.is

pub returns-in-6 : goal.returns-in-6
unfolding words_of_kind further_of_kind layout
returns-in-6 c = words_at c.in-6.is

pub returns-in-7 : goal.returns-in-7
unfolding words_of_kind further_of_kind layout
returns-in-7 c = words_at c.in-7.is

pub returns-in-8 : goal.returns-in-8
unfolding words_of_kind further_of_kind layout
returns-in-8 c = words_at c.in-8.is

pub returns-in-9 : goal.returns-in-9
unfolding words_of_kind further_of_kind layout
returns-in-9 c = words_at c.in-9.is

pub returns-in-10 : goal.returns-in-10
unfolding words_of_kind further_of_kind layout
returns-in-10 c = words_at c.in-10.is

pub returns-in-11 : goal.returns-in-11
unfolding words_of_kind further_of_kind layout
returns-in-11 c = words_at c.in-11.is

pub returns-in-14 : goal.returns-in-14
unfolding words_of_kind further_of_kind layout
returns-in-14 c = words_at c.in-14.is

pub returns-in-17 : goal.returns-in-17
unfolding words_of_kind further_of_kind layout
returns-in-17 c = words_at c.in-17.is

pub returns-in_default : goal.returns-in_default
returns-in_default c = words_else (((((((((((((tt, omega arith), omega arith), omega arith), omega arith), omega arith), omega arith), omega arith), omega arith), omega arith), omega arith), omega arith), omega arith), omega arith)
