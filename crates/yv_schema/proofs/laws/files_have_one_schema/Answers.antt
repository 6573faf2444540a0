use Rattle.std.proofs.Common.{inl, inr}
use Rattle.yv_schema.proofs.OneSchema.{one_list, one_notes, one_schema}
use Rattle.yv_schema.proofs.laws.files_have_one_schema.Goals as goal

pub returns-clause-tree : goal.returns-clause-tree
returns-clause-tree c = λ choice files limit a b clear p q.
    one_schema c.an_expression_has_one_truth.ensures c.files_have_one_typing.ensures c.files_have_one_schema.ensures choice files
    (λ f h. clear f (inl (inr (inl (inr (inl h)))))) c.a_tree_is_typed_once.ensures a b p q

pub returns-clause-augments : goal.returns-clause-augments
returns-clause-augments c = λ choice files limit a b clear p q.
    one_notes c.an_expression_has_one_truth.ensures c.files_have_one_typing.ensures c.files_have_one_schema.ensures choice files
    (λ f h. clear f (inl (inr (inl (inr (inl h)))))) a b p q

pub returns-clause-references : goal.returns-clause-references
returns-clause-references c = λ choice files limit a b clear p q.
    one_list c.an_expression_has_one_truth.ensures c.files_have_one_typing.ensures c.files_have_one_schema.ensures choice files
    (λ f h. clear f (inl (inr (inl (inr (inl h)))))) c.a_schema_has_one_list_of_links.ensures a b p q
