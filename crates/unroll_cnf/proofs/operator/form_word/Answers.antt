use Rattle.std.proofs.Common.{◌≤◌, ◌∙◌, List, length, sym, ap, subst}
use Rattle.cnf_form.specs.declared.lit.Lit.{Lit}
use Rattle.bit_blast.specs.Made.{IsBelow}
use Rattle.unroll_cnf.proofs.Ready.{one_ready, two_ready, three_ready, arrow_ready}
use Rattle.unroll_cnf.proofs.operator.form_word.Goals as goal

pub word-requires : goal.word-requires
word-requires c = (one_ready c.args.parts.now c.args.maker.now.vars c.args.now.now c.args.ty c.args.form c.in-One.op c.in-One.a c.in-One.is c.requires.ready).within

pub unary_word-requires : goal.unary_word-requires
unary_word-requires c =
    subst (IsBelow c.args.maker.now.vars) (sym c.word.ensures)
    (one_ready c.args.parts.now c.args.maker.now.vars c.args.now.now c.args.ty c.args.form c.in-One.op c.in-One.a c.in-One.is c.requires.ready).below

pub word-requires-in-Two : goal.word-requires-in-Two
word-requires-in-Two c =
    (two_ready c.args.parts.now c.args.maker.now.vars c.args.now.now c.args.ty c.requires.valid c.args.form c.in-Two.op c.in-Two.a c.in-Two.b c.in-Two.is c.requires.ready).first_word.within

pub word-requires-in-Two-2 : goal.word-requires-in-Two-2
word-requires-in-Two-2 c =
    (two_ready c.args.parts.now c.args.maker.now.vars c.args.now.now c.args.ty c.requires.valid c.args.form c.in-Two.op c.in-Two.a c.in-Two.b c.in-Two.is c.requires.ready).second_word.within

pub binary_word-requires-clause-size : goal.binary_word-requires-clause-size
binary_word-requires-clause-size c =
    ap (λ (a : List Lit). length a) c.word-in-Two.ensures
    ∙ ((two_ready c.args.parts.now c.args.maker.now.vars c.args.now.now c.args.ty c.requires.valid c.args.form c.in-Two.op c.in-Two.a c.in-Two.b c.in-Two.is c.requires.ready).size
    ∙ ap (λ (a : List Lit). length a) (sym c.word-in-Two-2.ensures))

pub binary_word-requires-clause-some : goal.binary_word-requires-clause-some
binary_word-requires-clause-some c =
    subst (λ (a : List Lit). 1 ≤ length a) (sym c.word-in-Two.ensures)
    (two_ready c.args.parts.now c.args.maker.now.vars c.args.now.now c.args.ty c.requires.valid c.args.form c.in-Two.op c.in-Two.a c.in-Two.b c.in-Two.is c.requires.ready).some

pub binary_word-requires-clause-a : goal.binary_word-requires-clause-a
binary_word-requires-clause-a c =
    subst (IsBelow c.args.maker.now.vars) (sym c.word-in-Two.ensures)
    (two_ready c.args.parts.now c.args.maker.now.vars c.args.now.now c.args.ty c.requires.valid c.args.form c.in-Two.op c.in-Two.a c.in-Two.b c.in-Two.is c.requires.ready).first_word.below

pub binary_word-requires-clause-b : goal.binary_word-requires-clause-b
binary_word-requires-clause-b c =
    subst (IsBelow c.args.maker.now.vars) (sym c.word-in-Two-2.ensures)
    (two_ready c.args.parts.now c.args.maker.now.vars c.args.now.now c.args.ty c.requires.valid c.args.form c.in-Two.op c.in-Two.a c.in-Two.b c.in-Two.is c.requires.ready).second_word.below

pub word-requires-in-Ite : goal.word-requires-in-Ite
word-requires-in-Ite c =
    (three_ready c.args.parts.now c.args.maker.now.vars c.args.now.now c.args.ty c.requires.valid c.args.form c.in-Ite.a c.in-Ite.b c.in-Ite.c c.in-Ite.is c.requires.ready).test_word.within

pub word-requires-in-Ite-2 : goal.word-requires-in-Ite-2
word-requires-in-Ite-2 c =
    (three_ready c.args.parts.now c.args.maker.now.vars c.args.now.now c.args.ty c.requires.valid c.args.form c.in-Ite.a c.in-Ite.b c.in-Ite.c c.in-Ite.is c.requires.ready).first_word.within

pub word-requires-in-Ite-3 : goal.word-requires-in-Ite-3
word-requires-in-Ite-3 c =
    (three_ready c.args.parts.now c.args.maker.now.vars c.args.now.now c.args.ty c.requires.valid c.args.form c.in-Ite.a c.in-Ite.b c.in-Ite.c c.in-Ite.is c.requires.ready).second_word.within

pub if_word-requires-clause-some : goal.if_word-requires-clause-some
if_word-requires-clause-some c =
    subst (λ (a : List Lit). 1 ≤ length a) (sym c.word-in-Ite.ensures)
    (three_ready c.args.parts.now c.args.maker.now.vars c.args.now.now c.args.ty c.requires.valid c.args.form c.in-Ite.a c.in-Ite.b c.in-Ite.c c.in-Ite.is c.requires.ready).some

pub if_word-requires-clause-size : goal.if_word-requires-clause-size
if_word-requires-clause-size c =
    ap (λ (a : List Lit). length a) c.word-in-Ite-2.ensures
    ∙ ((three_ready c.args.parts.now c.args.maker.now.vars c.args.now.now c.args.ty c.requires.valid c.args.form c.in-Ite.a c.in-Ite.b c.in-Ite.c c.in-Ite.is c.requires.ready).size
    ∙ ap (λ (a : List Lit). length a) (sym c.word-in-Ite-3.ensures))

pub if_word-requires-clause-a : goal.if_word-requires-clause-a
if_word-requires-clause-a c =
    subst (IsBelow c.args.maker.now.vars) (sym c.word-in-Ite.ensures)
    (three_ready c.args.parts.now c.args.maker.now.vars c.args.now.now c.args.ty c.requires.valid c.args.form c.in-Ite.a c.in-Ite.b c.in-Ite.c c.in-Ite.is c.requires.ready).test_word.below

pub if_word-requires-clause-b : goal.if_word-requires-clause-b
if_word-requires-clause-b c =
    subst (IsBelow c.args.maker.now.vars) (sym c.word-in-Ite-2.ensures)
    (three_ready c.args.parts.now c.args.maker.now.vars c.args.now.now c.args.ty c.requires.valid c.args.form c.in-Ite.a c.in-Ite.b c.in-Ite.c c.in-Ite.is c.requires.ready).first_word.below

pub if_word-requires-clause-c : goal.if_word-requires-clause-c
if_word-requires-clause-c c =
    subst (IsBelow c.args.maker.now.vars) (sym c.word-in-Ite-3.ensures)
    (three_ready c.args.parts.now c.args.maker.now.vars c.args.now.now c.args.ty c.requires.valid c.args.form c.in-Ite.a c.in-Ite.b c.in-Ite.c c.in-Ite.is c.requires.ready).second_word.below

pub word-requires-in-Arrow : goal.word-requires-in-Arrow
word-requires-in-Arrow c = (arrow_ready c.args.parts.now c.args.maker.now.vars c.args.now.now c.args.ty c.args.form c.in-Arrow.a c.in-Arrow.b c.in-Arrow.is c.requires.ready).0.within

pub word-requires-in-Arrow-2 : goal.word-requires-in-Arrow-2
word-requires-in-Arrow-2 c = (arrow_ready c.args.parts.now c.args.maker.now.vars c.args.now.now c.args.ty c.args.form c.in-Arrow.a c.in-Arrow.b c.in-Arrow.is c.requires.ready).1.within
