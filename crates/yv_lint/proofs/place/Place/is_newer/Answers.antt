use Rattle.std.proofs.Common.{sym, ◌∙◌, ap}
use Rattle.yv_lint.specs.InnerPlaces.{place_of}
use Rattle.yv_lint.specs.Newer.{is_newer_form}
use Rattle.yv_lint.proofs.place.Place.is_newer.Goals as goal

pub returns-in-IfFeature : goal.returns-in-IfFeature
returns-in-IfFeature c = λ before h. c.is_newer_condition.ensures before ∙ ap (λ k. is_newer_form k (place_of before c.args.self.now)) (sym c.in-IfFeature.is ∙ c.kind.ensures)

pub returns-in-Type : goal.returns-in-Type
returns-in-Type c = λ before h. c.is_newer_type.ensures before ∙ ap (λ k. is_newer_form k (place_of before c.args.self.now)) (sym c.in-Type.is ∙ c.kind.ensures)
