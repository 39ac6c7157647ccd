-- `cells::key::last_key` meets its contract: the bytes in front of the text are divided out. Assumes nothing.
use mathlib.Core.Path.{ap, ◌∙◌}
use Prim.Native.Nat.{◌/◌, ◌%◌}
use native.Mathlib.Omega.{arith}
use Rattle.rules.specs.Text.{bytes_at, start_of, size_of}
use Rattle.cells.specs.Text.{key_of}
use Rattle.cells.proofs.LawsWord.{within, last_begin, last_word, last_rem}
use Rattle.cells.proofs.key.last_key.Goals as goal

pub returns-then-end-lt8 : goal.returns-then-end-lt8
returns-then-end-lt8 c =
    c.key_of.ensures ∙ ap key_of c.part.ensures.bytes ∙ last_begin c.args.area.now c.args.payload c.requires c.if-end-lt8.true

pub word_at-word-requires : goal.word_at-word-requires
word_at-word-requires c = omega (arith, within c.args.area.now c.args.payload c.requires, c.if-end-lt8.false)

pub returns-then-len-ge8 : goal.returns-then-len-ge8
unfolding bytes_at start_of size_of
returns-then-len-ge8 c =
    let a = c.args in
    last_word a.area.now (a.payload / 256) (a.payload % 256) _ (within a.area.now a.payload c.requires) c.if-end-lt8.false c.word_at-word.ensures c.if-len-ge8.true

pub returns : goal.returns
unfolding bytes_at start_of size_of
returns c =
    let a = c.args in
    last_rem a.area.now (a.payload / 256) (a.payload % 256) _ (within a.area.now a.payload c.requires) c.if-end-lt8.false c.word_at-word.ensures c.if-len-ge8.false
