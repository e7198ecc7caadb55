use Rattle.items.proofs.writing.put_documented.Goals as goal

pub returns : goal.returns
returns c = rw (c.first_word.ensures, c.doc_word.ensures) at c.put_words.ensures
