use Rattle.dependency_book.proofs.Names.{CanBePut, Known, arc_value, subst, text}
use Rattle.dependency_book.proofs.Putting.{step_no_text}
use Rattle.dependency_book.proofs.book.Book.put_bytes.Goals as goal

pub unreachable-requires : goal.unreachable-requires
unreachable-requires c =
    step_no_text c.args.self.now c.in_default.field-0 c.in_default.field-1 (arc_value c.args.bytes)
    (subst (λ n. CanBePut c.args.self.now n (Known (text (arc_value c.args.bytes)))) c.in_default.is
    c.requires)
