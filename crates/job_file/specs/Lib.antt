pub mod JobFile
pub mod SurveyFile
