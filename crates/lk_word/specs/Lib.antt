pub mod SpinWord
pub mod RwWord
pub mod NodeWord
