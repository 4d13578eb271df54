use Rattle.std.proofs.Common.{suc, ◌+◌, ◌-◌, Ok, refl, sym, ap, ◌∙◌, ap₂, subst, rules, arith}
use Rattle.rows.specs.declared.head.Kind.TheVariants.{Statement as AStatement}
use Rattle.rows.specs.Parts.{stmts, sort, many}
use Rattle.rows.specs.Reader.{read_part, read_parts}
use Rattle.rows.specs.Told.{ToldOf}
use Rattle.rows.proofs.Exits.{broke, told_as, several_more, several_broken, same_text, same_part}
use Rattle.rows.proofs.Layers.{head_within, front_refused, back_refused, both_read}
use Rattle.rows.proofs.reader.Reader.+part_parts.Goals as goal

pub part-overflow_add-at : goal.part-overflow_add-at
part-overflow_add-at t c = omega (arith, head_within c.args.kind c.args.self.now.text.rows.now _ c.args.at _ c.in_ok-head.ensures)

pub part-parts-requires : goal.part-parts-requires
part-parts-requires t c = (omega arith, head_within c.args.kind _ _ _ _ c.in_ok-head.ensures)

pub part-returns-in_err-front-clause-told : goal.part-returns-in_err-front-clause-told
part-returns-in_err-front-clause-told t c =
    broke _ _ c.from_residual-in_err-front.ensures.1
    (front_refused _ _ _ _ _ c.in_ok-head.ensures _ c.if-depth-eq0.false _ _ _ c.in_err-front.ensures.told)

pub part-returns-in_err-back-clause-told : goal.part-returns-in_err-back-clause-told
part-returns-in_err-back-clause-told t c =
    broke _ _ c.from_residual-in_err-back.ensures.1
    (back_refused _ _ _ _ _ c.in_ok-head.ensures _ c.if-depth-eq0.false _ _ _ c.in_ok-front.ensures.told _ _
    (same_text (many stmts _) (read_parts AStatement _ (c.args.depth - 1)) _ c.in_ok-front.ensures.same_text c.in_err-back.ensures.told))

pub part-returns-clause-told : goal.part-returns-clause-told
part-returns-clause-told t c =
    told_as refl (c.under_head.ensures ∙ same_part (ap (λ p. p.end) c.joined.ensures) (ap₂ ◌+◌ c.statements.ensures (ap (λ p. p.statements) c.joined.ensures)) (ap (λ p. suc p.deep) c.joined.ensures))
    (both_read _ _ _ _ _ c.in_ok-head.ensures _ c.if-depth-eq0.false _ _ _ c.in_ok-front.ensures.told _ _
    (same_text (many stmts _) (read_parts AStatement _ (c.args.depth - 1)) _ c.in_ok-front.ensures.same_text c.in_ok-back.ensures.told))

pub parts-returns-then-count-eq0-clause-told : goal.parts-returns-then-count-eq0-clause-told
parts-returns-then-count-eq0-clause-told t c =
    subst (λ n. ToldOf (many (sort c.args.kind) n) (read_parts c.args.kind n c.args.depth) c.args.self.now.text c.args.depth c.args.at c.args.self.now.ends.now c.args.self.now.ends.now (Ok c.none.result))
    (sym c.if-count-eq0.true) (search rules)

pub some_parts-returns-in_err-next-clause-told : goal.some_parts-returns-in_err-next-clause-told
some_parts-returns-in_err-next-clause-told t c =
    broke _ _ c.from_residual.ensures.1
    (several_broken c.args.kind _ _ _ _ _ _ _ _ c.loop.invariant.told _ _ c.loop-test.true _
    (same_text (sort _) (read_part c.args.kind c.args.depth) _ c.loop.invariant.same_text c.in_err-next.ensures.told))

pub some_parts-loop-preserved : goal.some_parts-loop-preserved
some_parts-loop-preserved t c = record {
  told =
      told_as refl c.joined-whole.ensures
      (several_more c.args.kind _ _ _ _ _ _ _ _ c.loop.invariant.told _ _
      (same_text (sort _) (read_part c.args.kind c.args.depth) _ c.loop.invariant.same_text c.in_ok-next.ensures.told));
  same_text = c.in_ok-next.ensures.same_text ∙ c.loop.invariant.same_text;
  same_table = c.in_ok-next.ensures.same_table ∙ c.loop.invariant.same_table;
}
